use Rattle.trail_theory.proofs.ReadPoints.{advances_by_product}
use Rattle.trail_theory.proofs.advance_by_product_stays_right.Goals as goal

pub returns : goal.returns
returns c = record { right = advances_by_product }
