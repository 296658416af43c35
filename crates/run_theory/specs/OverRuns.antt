-- Runs of which nothing but folds is left: each strand is over, up to the first that has a fault. And strands of which no block that is left reads a reducer.
use Rattle.std.specs.Prelude.{◌≡◌, ◌⊎◌, List, [], ◌∷◌}
use Rattle.meaning.specs.Outcome.{Fault}
use Rattle.meaning.specs.SmallStep.{Phase, entering, running, spawning, returning, leaving, broken, Parent, Continuation}
use Rattle.meaning.specs.Schedules.{Piece}
use Rattle.trail_theory.specs.Order.{Every}
use Rattle.trail_theory.specs.MainReads.{IsQuietTodo, IsOtherChild}
use Rattle.run_theory.specs.RightRuns.{IsOver}

abbrev pub HasFault : Piece → Type 0
HasFault p = (k : Fault) × (p.strand.phase ≡ broken k)

abbrev pub AreOver : List Piece → Type 0
AreOver [] = Unit {0}
AreOver (p ∷ ps) = HasFault p ⊎ (IsOver p.strand p.deque × AreOver ps)

-- ---- no block that is left reads a reducer

abbrev pub IsQuietPhase : Phase → Type 0
IsQuietPhase (entering child) = IsOtherChild child
IsQuietPhase (running todo) = IsQuietTodo todo
IsQuietPhase (spawning d x child todo) = IsOtherChild child × IsQuietTodo todo
IsQuietPhase (returning v) = Unit {0}
IsQuietPhase (leaving v) = Unit {0}
IsQuietPhase (broken k) = Unit {0}

abbrev pub AreQuietParents : List Parent → Type 0
AreQuietParents t = Every (λ p. IsQuietTodo p.todo) t

abbrev pub IsQuietDeque : List Continuation → Type 0
IsQuietDeque ks = Every (λ k. IsQuietTodo k.parent.todo × AreQuietParents k.under) ks

pub record ReadsNoMore (p : Piece) : Type 0 where
  pub phase : IsQuietPhase p.strand.phase
  pub under : AreQuietParents p.strand.under
  pub deque : IsQuietDeque p.deque
