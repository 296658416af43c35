use Rattle.run_theory.proofs.Paths.{steps_right}
use Rattle.run_theory.proofs.steps_stay_right.Goals as goal

pub returns : goal.returns
returns c = record { right = steps_right }
