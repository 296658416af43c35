use Rattle.run_theory.proofs.Kits.{ends_kits}
use Rattle.run_theory.proofs.ends_free_kits.Goals as goal

pub returns : goal.returns
returns c = record { free = ends_kits }
