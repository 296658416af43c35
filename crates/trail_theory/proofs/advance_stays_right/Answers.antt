use Rattle.trail_theory.proofs.Theorems.{advances}
use Rattle.trail_theory.proofs.advance_stays_right.Goals as goal

pub returns : goal.returns
returns c = record { right = advances }
