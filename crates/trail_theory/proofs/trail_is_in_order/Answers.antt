use Rattle.trail_theory.proofs.Order.{trail_ordered}
use Rattle.trail_theory.proofs.trail_is_in_order.Goals as goal

pub returns : goal.returns
returns c = record { order = trail_ordered }
