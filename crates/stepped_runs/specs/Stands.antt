-- What a run of numbers stands for: a run of the definitions.
use Rattle.std.specs.Prelude.{◌≡◌, ◌⊎◌, true, List, [], ◌∷◌}
use Rattle.monoid_laws.specs.Worth.{Worth}
use Rattle.monoid_laws.specs.Kinds.{operate_all}
use Rattle.meaning.specs.Outcome.{Place}
use Rattle.meaning.specs.SmallStep.{Continuation}
use Rattle.meaning.specs.Strands.{State, Held, Ended, Stalled, Faulted, Finished}
use Rattle.meaning.specs.Schedules.{Piece, RunState}
use Rattle.run_theory.specs.UnflaggedRuns.{unflagged_run}
use Rattle.positions.specs.Setting.{Setting}
use Rattle.positions.specs.declared.phase.Phase.{Phase}
use Rattle.positions.specs.declared.phase.Phase.TheVariants.{Running, Returning, Leaving, Broken}
use Rattle.positions.specs.Strands.{PlainStrand, PlainTask, is_entry, IsLayered}
use Rattle.positions.specs.Nesting.{NestAt}
use Rattle.positions.specs.Stands.{StandsFor, StandsForTask}
use Rattle.stepped_runs.specs.Pieces.{PlainPiece}
use Rattle.stepped_runs.specs.Runs.{PlainRun}

-- the strand with these values of its reducers
abbrev pub with_worths : List Worth → PlainStrand → PlainStrand
with_worths ws s = record s { layer = record s.layer { worths = ws } }

abbrev pub valued : List Worth → PlainPiece → PlainPiece
valued ws p = record p { strand = with_worths ws p.strand }

-- the name of an instance that isn't main
abbrev pub IsBelowMain : Place → Type 0
IsBelowMain [] = ⊥
IsBelowMain (k ∷ n) = Unit {0}

-- as what a strand was laid down says at which point it is: a child that has returned, at its entry, with a fault and its
-- lowest layer alone, or main at its end
abbrev pub IsLaidAs : State → Phase → PlainStrand → Type 0
IsLaidAs (Held w) ph s = Unit {0}
IsLaidAs Ended (Leaving v) s = IsBelowMain s.path
IsLaidAs Stalled Running s = is_entry s ≡ true
IsLaidAs Stalled (Returning v) s = is_entry s ≡ true
IsLaidAs Faulted (Broken f) s = s.lower ≡ []
IsLaidAs Finished (Leaving v) s = (s.path ≡ []) × (s.below ≡ [])
IsLaidAs _ _ s = ⊥

module _ (setting : Setting) where
  abbrev pub StandForTasks : List PlainTask → List Continuation → Type 0
  StandForTasks [] [] = Unit {0}
  StandForTasks (task ∷ tasks) (k ∷ ks) = StandsForTask setting task k × StandForTasks tasks ks
  StandForTasks _ _ = ⊥

  -- the strand with its tally, and its continuations
  pub record StandsForPiece (p : PlainPiece) (x : Piece) : Type 0 where
    pub strand : StandsFor setting p.strand x.strand x.tally
    pub layered : IsLayered p.strand
    pub nests : NestAt setting.codes p.strand.phase p.strand
    pub tasks : StandForTasks p.deque x.deque
    pub state : x.state ≡ p.state
    pub laid : IsLaidAs p.state p.strand.phase p.strand

  -- an ended strand and a stalled one behind it: a fold that memory was refused for may have moved some reducers' values to the left. The product stays
  pub record StandFolding (p q : PlainPiece) (x y : Piece) : Type 0 where
    pub ended : p.state ≡ Ended
    pub stalled : q.state ≡ Stalled
    pub to_left : List Worth
    pub to_right : List Worth
    pub left : StandsForPiece (valued to_left p) x
    pub right : StandsForPiece (valued to_right q) y
    pub product :
        operate_all p.strand.layer.kinds p.strand.layer.worths q.strand.layer.worths
        ≡ operate_all p.strand.layer.kinds to_left to_right

  -- piece by piece, but for two between which a fold was refused for memory
  abbrev pub StandForPieces : List PlainPiece → List Piece → Type 0
  StandForPieces [] [] = Unit {0}
  StandForPieces (p ∷ []) (x ∷ []) = StandsForPiece p x
  StandForPieces (p ∷ q ∷ ps) (x ∷ y ∷ xs) =
      (StandsForPiece p x × StandForPieces (q ∷ ps) (y ∷ xs))
      ⊎ (StandFolding p q x y × StandForPieces ps xs)
  StandForPieces _ _ = ⊥

  -- the run of numbers stands for that run of the definitions, whose instances have no flags
  pub record StandsForRun (s : PlainRun) (x : RunState) : Type 0 where
    pub pieces : StandForPieces s.pieces x.pieces
    pub kits : x.kits ≡ s.kits
    pub history : x.history ≡ s.history

  -- the run of numbers stands for that run of the definitions, flags aside
  abbrev pub StandsForUnflagged : PlainRun → RunState → Type 0
  StandsForUnflagged s x = StandsForRun s (unflagged_run x)
