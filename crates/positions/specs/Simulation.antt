-- What the steps on strands of numbers are for the strands of the definitions that they stand for.
use Rattle.std.specs.Prelude.{◌≡◌, ℕ, ℤ, Bool, true, false, List, [], ◌∷◌, Option, Some, None, take}
use Rattle.meaning.specs.Tree.{Body, update, step}
use Rattle.meaning.specs.Trail.{child_of}
use Rattle.meaning.specs.SmallStep.{Child, Todo, blocks, Phase as NamedPhase, running, spawning, leaving, Pause, at_spawn, at_sync}
use Rattle.meaning.specs.SmallStep.{returned, faulted, Step, moved, taken, paused as paused_step, micro, Continuation}
use Rattle.meaning.specs.Layers.{bottom}
use Rattle.meaning.specs.Records.{holds_now}
use Rattle.meaning.specs.Tallies.{Tally, no_tally, tallied, tallies_joined, valid_record}
use Rattle.meaning.specs.LayeredStrand.{LayeredStrand, advanced, first_layered, inlined, detached, continuation, resumed, stolen}
use Rattle.meaning.specs.Schedules.{kits_after, bottom_alone, joined_pair}
use Rattle.trail_theory.specs.Order.{Every}
use Rattle.trail_theory.specs.OwnLayers.{frame_by, is_top_by_length}
use Rattle.trail_theory.specs.Unflagged.{unflagged_step}
use Rattle.positions.specs.declared.phase.Phase.{Phase}
use Rattle.positions.specs.declared.phase.Phase.TheVariants.{AtSpawn}
use Rattle.positions.specs.declared.phase.Paused.{Paused}
use Rattle.positions.specs.declared.phase.Paused.TheVariants as paused
use Rattle.positions.specs.declared.start.Start.{Start}
use Rattle.positions.specs.declared.start.Start.TheVariants.{Root, Behind}
use Rattle.positions.specs.Setting.{Setting}
use Rattle.positions.specs.Advance.{kits_then}
use Rattle.positions.specs.Strands.{PlainStrand, PlainTask, IsLayered}
use Rattle.positions.specs.Nesting.{NestAt}
use Rattle.positions.specs.Stands.{StandsFor, StandsForTask}

-- how the definitions name a point
abbrev pub named_pause : Paused → Option Pause
named_pause paused.Working = None
named_pause paused.AtSpawn = Some at_spawn
named_pause paused.AtSync = Some at_sync
named_pause paused.Returned = Some returned
named_pause paused.Finished = Some returned
named_pause paused.Faulted = Some faulted

-- the name of the child behind which a strand begins
abbrev pub place_of : Start → List ℕ → List ℕ
place_of Root path = []
place_of (Behind depth child) path = child_of (take depth path) child

-- a strand begins behind a child
abbrev pub IsBehind : Start → Type 0
IsBehind Root = ⊥
IsBehind (Behind depth child) = Unit {0}

-- a strand is not at a spawn
abbrev pub IsNotAtSpawn : Phase → Type 0
IsNotAtSpawn AtSpawn = ⊥
IsNotAtSpawn _ = Unit {0}

-- the next small step is that of an update
abbrev pub updates_body : List Body → Bool
updates_body (step n (update r es) b ∷ bs) = true
updates_body _ = false

abbrev pub updates : NamedPhase → Bool
updates (running (blocks bs)) = updates_body bs
updates _ = false

-- there is a step
abbrev pub IsTaken : Step → Type 0
IsTaken (moved l es fr ph t) = Unit {0}
IsTaken (taken es k fr ph t) = Unit {0}
IsTaken (paused_step p) = ⊥

-- the free kits after a step
abbrev pub kits_by : Step → ℕ → ℕ
kits_by (moved l es fr ph t) kits = kits_after l kits
kits_by (taken es k fr ph t) kits = kits
kits_by (paused_step p) kits = kits

module _ (setting : Setting) where
  -- the small step of a strand without flags: a layer closes where its instance's name is as long as that of the one that returns
  abbrev pub small_step : Bool → LayeredStrand → Tally → Step
  small_step kit x t =
      unflagged_step (micro setting.program.tree setting.tables (valid_record setting.program setting.tables setting.memory.records) kit
      (bottom x.layers) x.start (frame_by is_top_by_length x.phase t.opened x.frame) x.phase x.under)

  -- the records made hold now: so each procedure that they name has a number
  abbrev pub HoldNow : Tally → Type 0
  HoldNow u = Every (λ k. holds_now setting.program setting.tables k ≡ true) u.made

  -- the tally after the small step
  abbrev pub tally_after : Bool → LayeredStrand → Tally → Tally
  tally_after kit x t = tallied setting.program x.layers (small_step kit x t) t

  -- what the second stands for is the small step of what the first stands for, where the records made by then hold now
  abbrev pub IsSmallStep : Bool → PlainStrand → PlainStrand → Type 0
  IsSmallStep kit s s' =
      (x : LayeredStrand) (t : Tally) → StandsFor setting s x t → IsLayered s → HoldNow (tally_after kit x t)
      → StandsFor setting s' (advanced setting.program.tree x (small_step kit x t)) (tally_after kit x t)

  -- the layers that the step opens and closes take the kits that it takes by the definitions
  abbrev pub KitsFollow : Bool → PlainStrand → PlainStrand → Type 0
  KitsFollow kit s s' =
      (x : LayeredStrand) (t : Tally) (kits : ℕ) → StandsFor setting s x t → IsLayered s → kits_by (small_step kit x t) kits ≡ kits_then s.lower s'.lower kits

  abbrev pub IsPauseBy : Option Pause → Bool → LayeredStrand → Tally → Type 0
  IsPauseBy None kit x t = Unit {0}
  IsPauseBy (Some p) kit x t = small_step kit x t ≡ paused_step p

  -- what the strand stands for has no small step at that point
  abbrev pub IsPause : Paused → PlainStrand → Type 0
  IsPause p s = (kit : Bool) (x : LayeredStrand) (t : Tally) → StandsFor setting s x t → IsPauseBy (named_pause p) kit x t

  -- what the strand stands for has a small step
  abbrev pub IsStepTaken : PlainStrand → Type 0
  IsStepTaken s = (kit : Bool) (x : LayeredStrand) (t : Tally) → StandsFor setting s x t → IsTaken (small_step kit x t)

  -- the strand of a run's beginning
  abbrev pub IsFirst : PlainStrand → Type 0
  IsFirst s = StandsFor setting s (first_layered setting.program.tree) no_tally

  -- at a spawn: the child as a call
  abbrev pub IsInlined : PlainStrand → PlainStrand → Type 0
  IsInlined s s' =
      (x : LayeredStrand) (t : Tally) (d : ℕ) (into : Option ℕ) (child : Child) (todo : Todo) → StandsFor setting s x t → x.phase ≡ spawning d into child todo
      → StandsFor setting s' (inlined setting.program.tree x d into child todo) t

  -- at a spawn: the child alone, and the continuation
  abbrev pub IsDetached : PlainStrand → PlainStrand → PlainTask → Type 0
  IsDetached s s' task =
      (x : LayeredStrand) (t : Tally) (d : ℕ) (into : Option ℕ) (child : Child) (todo : Todo) → StandsFor setting s x t → x.phase ≡ spawning d into child todo
      → StandsFor setting s' (detached setting.program.tree x d child) t × StandsForTask setting task (continuation x into todo)

  -- the child alone and the continuation put together again: the child as a call
  abbrev pub IsAttached : PlainTask → PlainStrand → PlainStrand → Type 0
  IsAttached task s s' =
      (x : LayeredStrand) (t : Tally) (d : ℕ) (into : Option ℕ) (child : Child) (todo : Todo) → s.path ≡ task.place
      → StandsFor setting s (detached setting.program.tree x d child) t → StandsForTask setting task (continuation x into todo)
      → StandsFor setting s' (inlined setting.program.tree x d into child todo) t

  -- on with the continuation of a child that has returned
  abbrev pub IsResumed : PlainTask → PlainStrand → PlainStrand → Type 0
  IsResumed task s s' =
      (x : LayeredStrand) (t : Tally) (k : Continuation) (v : ℤ) → s.path ≡ task.place → StandsFor setting s x t
      → StandsForTask setting task k → x.phase ≡ leaving v → x.under ≡ []
      → StandsFor setting s' (resumed setting.program.tree x k v) t

  -- the strand of a stolen continuation
  abbrev pub IsStolen : PlainTask → PlainStrand → Type 0
  IsStolen task s' = (k : Continuation) → StandsForTask setting task k → StandsFor setting s' (stolen setting.program.tree k) no_tally

  -- two neighbours as one strand, where they may be folded; the left one's layers are those of instances with others inside
  abbrev pub IsJoined : PlainStrand → PlainStrand → PlainStrand → Type 0
  IsJoined l r s' =
      (x y z : LayeredStrand) (t u : Tally) → IsNotAtSpawn r.phase → r.lower ≡ [] → IsBehind r.start → NestAt setting.codes l.phase l → IsLayered l
      → StandsFor setting l x t → StandsFor setting r y u
      → joined_pair setting.program setting.tables setting.memory x x.phase y y.phase ≡ Some z
      → StandsFor setting s' z (tallies_joined t u)

  -- the strand with its lowest layer alone
  abbrev pub IsAlone : PlainStrand → PlainStrand → Type 0
  IsAlone s s' =
      (x : LayeredStrand) (t : Tally) → StandsFor setting s x t
      → StandsFor setting s' (record x { layers = bottom_alone setting.program setting.tables setting.memory x.layers }) t

  -- whether the next small step is that of an update
  abbrev pub IsUpdateNext : PlainStrand → Bool → Type 0
  IsUpdateNext s b = (x : LayeredStrand) (t : Tally) → StandsFor setting s x t → b ≡ updates x.phase

-- a step keeps as many layers open as there are below the topmost one
abbrev pub KeepsLayers : PlainStrand → PlainStrand → Type 0
KeepsLayers s s' = IsLayered s → IsLayered s'
