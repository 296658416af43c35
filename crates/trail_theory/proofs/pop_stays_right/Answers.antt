use Rattle.trail_theory.proofs.Theorems.{pops}
use Rattle.trail_theory.proofs.pop_stays_right.Goals as goal

pub returns : goal.returns
returns c = record { right = pops }
