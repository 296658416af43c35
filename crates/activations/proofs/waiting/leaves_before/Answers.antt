use Rattle.std.proofs.Common.{◌∙◌}
use Rattle.activations.proofs.Orders.{right_ends}
use Rattle.activations.proofs.waiting.leaves_before.Goals as goal

pub returns-then-depth-right : goal.returns-then-depth-right
returns-then-depth-right c = record {
  before = right_ends c.args.left.now c.args.right.now c.args.child c.args.other c.loop-depth.depth c.loop-depth-test.true c.if-depth-right.true ∙ c.loop-depth.invariant.0;
}
