use Rattle.run_theory.proofs.News.{paths_own}
use Rattle.run_theory.proofs.paths_own_layers.Goals as goal

pub returns : goal.returns
returns c = record { own = paths_own }
