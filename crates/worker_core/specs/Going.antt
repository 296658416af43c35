-- No run is stuck: until it is over one of its workers has a step.
use Rattle.std.specs.Prelude.{◌≡◌, ℕ, ◌<◌, false}
use Rattle.stepped_runs.specs.Progress.{AreByWorkers, HasStep}
use Rattle.worker_core.specs.Strands.{PlainStrands, run_of}
use Rattle.worker_core.specs.Cores.{PlainCore, is_over, setting_in}

-- the strands are held by the workers, where there is one
abbrev pub AreHeldBy : ℕ → PlainStrands → Type 0
AreHeldBy n s = 0 < n → AreByWorkers n s.pieces

-- where there is a worker, a run that is not over has a step by one of them
abbrev pub GoesOn : PlainCore → Type 0
GoesOn c = is_over c ≡ false → 0 < c.workers → HasStep (setting_in c) c.workers (run_of c.strands)
