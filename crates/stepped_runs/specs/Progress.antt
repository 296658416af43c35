-- No run of so many workers gets stuck: until it has come to its end one of them has a step.
use Rattle.std.specs.Prelude.{◌≡◌, ℕ, ◌<◌, true, List, [], ◌∷◌, Some, Ok}
use Rattle.meaning.specs.Elision.{Answer}
use Rattle.meaning.specs.Strands.{State, Held}
use Rattle.meaning.specs.Schedules.{RunStep}
use Rattle.positions.specs.Setting.{Setting}
use Rattle.stepped_runs.specs.Pieces.{PlainPiece}
use Rattle.stepped_runs.specs.Runs.{PlainRun, stepped, are_workers}
use Rattle.stepped_runs.specs.Ends.{answer_in}

-- a strand is held by one of so many workers, or laid down
abbrev pub IsByWorker : ℕ → State → Type 0
IsByWorker n (Held w) = w < n
IsByWorker n _ = Unit {0}

abbrev pub AreByWorkers : ℕ → List PlainPiece → Type 0
AreByWorkers n [] = Unit {0}
AreByWorkers n (p ∷ ps) = IsByWorker n p.state × AreByWorkers n ps

abbrev pub HasAnswer : Setting → PlainRun → Type 0
HasAnswer setting s = (a : Answer) × (answer_in setting s.pieces ≡ Some a)

-- one of the workers takes a step
pub record HasStep (setting : Setting) (n : ℕ) (s : PlainRun) : Type 0 where
  pub step : RunStep
  pub workers : are_workers n step ≡ true
  pub next : PlainRun
  pub taken : stepped setting s step ≡ Ok next
