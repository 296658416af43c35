use Rattle.run_theory.proofs.FlagsTold.{flags_told}
use Rattle.run_theory.proofs.flags_are_told.Goals as goal

pub returns : goal.returns
returns c = record { told = flags_told }
