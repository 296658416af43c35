use Rattle.trail_theory.proofs.Ends.{first_right}
use Rattle.trail_theory.proofs.first_is_right.Goals as goal

pub returns : goal.returns
returns c = record { right = first_right }
