use Rattle.run_theory.proofs.Progress.{some_step_is_there}
use Rattle.run_theory.proofs.some_step_is_there.Goals as goal

pub returns : goal.returns
returns c = record { there = some_step_is_there }
