use Rattle.std.proofs.Common.{◌≡◌, ◌≤◌}
use Rattle.positions.specs.Layers.{PlainLayer}
use Rattle.positions.specs.Tallies.{PlainTally}
use Rattle.activations.specs.Given.{lent}
use Rattle.recording_ahead.specs.AnsweredChains.{AreTaken}
use Rattle.own_statements.specs.Leaves.{plain_leaf}
use Rattle.recording_ahead.proofs.answered_row.take_row.Given as goal

abbrev pub invariant-loop : goal.invariant-loop
invariant-loop g l = record {
  taken : (k : PlainLayer) (t : PlainTally) → AreTaken (lent l.setting) (plain_leaf l.leaf) l.fn.first.count k t l.fn.machine.layer l.fn.machine.tally
      → AreTaken (lent l.setting) (plain_leaf l.leaf) l.passed.count k t l.machine.layer l.machine.tally;
  few : l.passed.count ≤ l.most;
  others : l.machine ≡ record l.fn.machine { layer = l.machine.layer; tally = l.machine.tally };
  opened : l.machine.tally.opened ≡ l.fn.machine.tally.opened;
  kinds : l.machine.layer.kinds ≡ l.fn.machine.layer.kinds;
  made : l.machine.tally.made ≡ l.fn.machine.tally.made;
}
