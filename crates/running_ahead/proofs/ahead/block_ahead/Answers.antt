use Rattle.activations.specs.Given.{lent}
use Rattle.running_ahead.proofs.Paths.{ahead_join}
use Rattle.running_ahead.proofs.ahead.block_ahead.Goals as goal

pub returns-in-Some-clause-ahead : goal.returns-in-Some-clause-ahead
returns-in-Some-clause-ahead g c =
    let S = lent c.args.setting in
    ahead_join S c.args.machine.now c.statements_ahead.new.machine c.goes_back.new.machine c.statements_ahead.ensures.ahead (c.goes_back.ensures.ahead S)
