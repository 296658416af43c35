use Rattle.activations.specs.Given.{lent}
use Rattle.running_ahead.proofs.Paths.{ahead_here}
use Rattle.running_ahead.proofs.ahead.call_ahead.Goals as goal

pub returns-in-None-clause-ahead : goal.returns-in-None-clause-ahead
returns-in-None-clause-ahead g c = ahead_here (lent c.args.setting) c.args.machine.now

pub returns-in_default-clause-ahead : goal.returns-in_default-clause-ahead
returns-in_default-clause-ahead g c = ahead_here (lent c.args.setting) c.args.machine.now
