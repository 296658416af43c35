use Rattle.trail_theory.proofs.Defines.{defines_keep}
use Rattle.trail_theory.proofs.defines_keep_numbers.Goals as goal

pub returns : goal.returns
returns c = record { kept = defines_keep }
