use Rattle.trail_theory.proofs.Theorems.{detaches}
use Rattle.trail_theory.proofs.detach_stays_right.Goals as goal

pub returns : goal.returns
returns c = record { right = detaches }
