use Rattle.std.proofs.Common.{◌∙◌}
use Rattle.activations.specs.Given.{lent}
use Rattle.running_ahead.proofs.Paths.{ahead_here, ahead_join}
use Rattle.running_ahead.proofs.ahead.calls_ahead.Goals as goal

pub call_ahead-requires-clause-kinds : goal.call_ahead-requires-clause-kinds
call_ahead-requires-clause-kinds g c κs within = c.loop.invariant.ahead.kinds ∙ c.requires.kinds

pub loop-init : goal.loop-init
loop-init g c = record { ahead = ahead_here (lent c.args.setting) c.args.machine.now; running = c.requires.running }

pub loop-preserved : goal.loop-preserved
loop-preserved g c = record {
  ahead = ahead_join (lent c.args.setting) c.args.machine.now c.loop.machine c.call_ahead.new.machine c.loop.invariant.ahead c.call_ahead.ensures.ahead;
  running = c.call_ahead.ensures.running;
}

pub returns-in-Nowhere-clause-ahead : goal.returns-in-Nowhere-clause-ahead
returns-in-Nowhere-clause-ahead g c = ahead_join (lent c.args.setting) c.args.machine.now c.loop.machine c.call_ahead.new.machine c.loop.invariant.ahead c.call_ahead.ensures.ahead

pub returns-in-Back-clause-ahead : goal.returns-in-Back-clause-ahead
returns-in-Back-clause-ahead g c = ahead_join (lent c.args.setting) c.args.machine.now c.loop.machine c.call_ahead.new.machine c.loop.invariant.ahead c.call_ahead.ensures.ahead
