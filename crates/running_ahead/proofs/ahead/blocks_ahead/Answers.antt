use Rattle.std.proofs.Common.{refl, ◌∙◌}
use Rattle.activations.specs.Given.{lent}
use Rattle.running_ahead.proofs.Paths.{ahead_here, ahead_join}
use Rattle.running_ahead.proofs.ahead.blocks_ahead.Goals as goal

pub block_ahead-requires-clause-kinds : goal.block_ahead-requires-clause-kinds
block_ahead-requires-clause-kinds g c κs within = c.loop.invariant.ahead.kinds ∙ c.requires.kinds

pub loop-init : goal.loop-init
loop-init g c = record { ahead = ahead_here (lent c.args.setting) c.args.machine.now; running = c.requires.running; same = refl }

pub loop-preserved : goal.loop-preserved
loop-preserved g c = record {
  ahead = ahead_join (lent c.args.setting) c.args.machine.now c.loop.machine c.block_ahead.new.machine c.loop.invariant.ahead c.block_ahead.ensures.ahead;
  running = c.in-Back.ensures.running;
  same = c.is_called-calls.ensures.same ∙ c.loop.invariant.same;
}

pub returns-in-Nowhere : goal.returns-in-Nowhere
returns-in-Nowhere g c = record {
  ahead = ahead_join (lent c.args.setting) c.args.machine.now c.loop.machine c.block_ahead.new.machine c.loop.invariant.ahead c.block_ahead.ensures.ahead;
  same = c.is_called-calls.ensures.same ∙ c.loop.invariant.same;
}

pub returns-in-Stays : goal.returns-in-Stays
returns-in-Stays g c = record {
  ahead = ahead_join (lent c.args.setting) c.args.machine.now c.loop.machine c.block_ahead.new.machine c.loop.invariant.ahead c.block_ahead.ensures.ahead;
  same = c.is_called-calls.ensures.same ∙ c.loop.invariant.same;
}
