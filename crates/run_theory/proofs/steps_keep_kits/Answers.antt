use Rattle.run_theory.proofs.Kits.{steps_kits}
use Rattle.run_theory.proofs.steps_keep_kits.Goals as goal

pub returns : goal.returns
returns c = record { kept = steps_kits }
