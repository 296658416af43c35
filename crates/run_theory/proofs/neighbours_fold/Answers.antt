use Rattle.run_theory.proofs.Neighbours.{neighbours}
use Rattle.run_theory.proofs.neighbours_fold.Goals as goal

pub returns : goal.returns
returns c = record { folds = neighbours }
