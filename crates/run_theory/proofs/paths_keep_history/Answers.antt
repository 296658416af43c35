use Rattle.run_theory.proofs.Legal.{paths_history}
use Rattle.run_theory.proofs.paths_keep_history.Goals as goal

pub returns : goal.returns
returns c = record { kept = paths_history }
