use Rattle.trail_theory.proofs.Theorems.{joins}
use Rattle.trail_theory.proofs.join_stays_right.Goals as goal

pub returns : goal.returns
returns c = record { right = joins }
