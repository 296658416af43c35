use Rattle.run_theory.proofs.Paths.{paths_right}
use Rattle.run_theory.proofs.paths_are_right.Goals as goal

pub returns : goal.returns
returns c = record { right = paths_right }
