-- When a strand or a continuation of numbers is right for a run: by itself, whatever other strands there are, and whichever
-- sound records by name the run's records stand for.
use Rattle.std.specs.Prelude.{◌≡◌, ◌⊎◌, pos, Bool, false, List, ◌∷◌, ◌++◌, length, map, IsPermutation}
use Rattle.meaning.specs.Outcome.{Accumulators, Log}
use Rattle.meaning.specs.Records.{Key}
use Rattle.meaning.specs.Trail.{sight_of}
use Rattle.meaning.specs.SmallStep.{Start as NamedStart, Continuation, Lookup}
use Rattle.meaning.specs.Tallies.{Opened, Tally, executions, valid_record}
use Rattle.meaning.specs.LayeredStrand.{LayeredStrand}
use Rattle.trail_theory.specs.TalliedTheorems.{IsContinuationNow}
use Rattle.trail_theory.specs.OwnLayers.{OwnsNow}
use Rattle.trail_theory.specs.Right.{stretch}
use Rattle.strand_theory.specs.Faults.{BrokenAt}
use Rattle.strand_theory.specs.Recorded.{key_of}
use Rattle.positions.specs.declared.phase.Fault.{Fault}
use Rattle.positions.specs.declared.phase.Phase.TheVariants.{AtSpawn, Leaving, Broken}
use Rattle.positions.specs.declared.start.Start.{Start}
use Rattle.positions.specs.Setting.{Setting}
use Rattle.positions.specs.Strands.{PlainStrand, PlainTask}
use Rattle.positions.specs.Nesting.{NestAt}
use Rattle.positions.specs.Moves.{detached}
use Rattle.positions.specs.Stands.{StandsFor, StandsForTask, IsStart, named_fault}
use Rattle.right_strands.specs.Remembering.{Remembers, recalling}

-- a strand, and whether memory was refused within one of its small steps
pub record PlainRight : Type 0 where
  pub strand : PlainStrand
  pub failed : Bool

-- a continuation, and where the strand that pushed it began
pub record Pushed : Type 0 where
  pub task : PlainTask
  pub since : Start

-- the strand's child has returned, and the continuation is the one that waits for it
abbrev pub FitsHere : PlainStrand → Pushed → Type 0
FitsHere s k = (s.start ≡ k.since) × (s.path ≡ k.task.place)

-- an open layer's name and arguments
abbrev pub key_opened : Opened → Key
key_opened o = (o.of, o.args)

-- the new records and the open layers are those of the executions of that stretch of the trail, each as often, but for as many as were left unrecorded
pub record HasRecordedStretch (t : Tally) (es : Log) : Type 0 where
  pub passed : List Key
  pub counted : length passed ≡ t.unrecorded
  pub each : IsPermutation (map key_of t.made ++ (map key_opened t.opened ++ passed)) (executions es)

module _ (setting : Setting) where
  abbrev pub sight : Accumulators
  sight = sight_of setting.program.tree setting.tables

  abbrev pub lookup : Lookup
  lookup = valid_record setting.program setting.tables setting.memory.records

  -- it stands for a strand of the definitions that is right and owns its layers, with a tally that has counted and recorded its stretch;
  -- where layers are open around others some memo procedure enters others
  pub record IsSound (s : PlainStrand) : Type 0 where
    pub named : LayeredStrand
    pub tally : Tally
    pub stands : StandsFor setting s named tally
    pub nests : NestAt setting.codes s.phase s
    pub owns : OwnsNow setting.program setting.tables lookup named tally
    pub recorded : HasRecordedStretch tally (stretch owns.tallied.right.segments)

  -- it has the first fault that the trail has from its beginning on; nothing is claimed of its instances and layers
  pub record IsCut (s : PlainStrand) : Type 0 where
    pub fault : Fault
    pub phase : s.phase ≡ Broken fault
    pub start : NamedStart
    pub begins : IsStart s.start s.phase s.path start
    pub first : BrokenAt setting.program.tree setting.tables sight lookup start (named_fault setting fault)

  -- right with those records by name
  abbrev pub IsRightBy : PlainStrand → Type 0
  IsRightBy s = IsSound s ⊎ IsCut s

  -- it stands for a right continuation of the definitions, pushed by a strand that began there
  pub record IsRightTaskBy (k : Pushed) : Type 0 where
    pub named : Continuation
    pub stands : StandsForTask setting k.task named
    pub since : IsStart k.since (Leaving (pos 0)) k.task.place named.since
    pub right : IsContinuationNow setting.program setting.tables lookup named

-- ---- whichever sound records by name there are

abbrev pub IsRightStrand : Setting → PlainStrand → Type 0
IsRightStrand setting s = (k : Remembers setting) → IsRightBy (recalling setting k) s

abbrev pub IsRightTask : Setting → Pushed → Type 0
IsRightTask setting t = (k : Remembers setting) → IsRightTaskBy (recalling setting k) t

module _ (setting : Setting) where
  -- what the type of a strand keeps: the reducers' kinds, and, unless memory was refused within a step, that it is right, and where it begins
  pub record IsHeld (start : Start) (failed : Bool) (s : PlainStrand) : Type 0 where
    pub kinds : s.layer.kinds ≡ setting.kinds
    pub right : failed ≡ false → IsRightStrand setting s
    pub begins : failed ≡ false → start ≡ s.start

  -- at a spawn of a right strand the continuation was taken out, and the child is left
  pub record WasDetached (k : Pushed) (s : PlainStrand) : Type 0 where
    pub old : PlainStrand
    pub right : IsRightStrand setting old
    pub phase : old.phase ≡ AtSpawn
    pub below : old.below ≡ k.task.top ∷ k.task.below
    pub is : s ≡ detached old
