use Rattle.activations.specs.Given.{lent}
use Rattle.running_ahead.proofs.Paths.{ahead_here}
use Rattle.running_ahead.proofs.ahead.leaves_for_memo.Goals as goal

pub returns-in_default : goal.returns-in_default
returns-in_default g c = record { ahead = ahead_here (lent c.args.setting) c.args.machine.now }
