use Rattle.std.proofs.Common.{◌≡◌, true, length}
use Rattle.record_theory.specs.Named.{HaveValues}
use Rattle.positions.specs.Layers.{blank}
use Rattle.activations.specs.Given.{lent}
use Rattle.own_statements.specs.Leaves.{AreLeaves, plain_leaf}
use Rattle.own_statements.proofs.leaves.record_each.Given as goal

abbrev pub invariant-loop-done : goal.invariant-loop-done
invariant-loop-done g l = record {
  leaves : AreLeaves (lent l.setting) (plain_leaf l.leaves.first) l.fn.layer l.fn.tally l.done l.layer l.tally;
  blank : l.own ≡ blank true l.setting.program.now.kinds (length l.setting.program.now.codes);
  kinds : l.layer.kinds ≡ l.fn.layer.kinds;
  values : HaveValues l.setting.program.now.kinds l.fn.tally.made → HaveValues l.setting.program.now.kinds l.tally.made;
}
