use Rattle.run_theory.proofs.Kits.{paths_kits}
use Rattle.run_theory.proofs.paths_keep_kits.Goals as goal

pub returns : goal.returns
returns c = record { kept = paths_kits }
