use Rattle.run_theory.proofs.Remains.{paths_rest}
use Rattle.run_theory.proofs.paths_keep_rest.Goals as goal

pub returns : goal.returns
returns c = record { kept = paths_rest }
