use Rattle.activations.specs.Given.{lent}
use Rattle.running_ahead.proofs.ahead.go_ahead.Goals as goal

pub returns-in-AtSpawn-clause-ahead : goal.returns-in-AtSpawn-clause-ahead
returns-in-AtSpawn-clause-ahead g c = c.call_spawned.ensures.ahead (lent c.args.setting)
