use Rattle.std.proofs.Common.{◌≡◌, length}
use Rattle.activations.specs.Given.{lent}
use Rattle.running_ahead.specs.Chains.{AreTurns}
use Rattle.running_ahead.proofs.turns.chain_by.Given as goal

abbrev pub invariant-loop-done : goal.invariant-loop-done
invariant-loop-done g l = record {
  turns : AreTurns (lent l.setting) l.turns.site l.fn.top.procedure l.fn.top.slots l.fn.top.left l.turns.share.first l.fn.layer l.done l.layer;
  top : l.top ≡ l.fn.top;
  long : length l.nest.above.items ≡ length l.fn.nest.above.items;
  kinds : l.layer.kinds ≡ l.fn.layer.kinds;
}
