use Rattle.activations.specs.Given.{lent}
use Rattle.running_ahead.proofs.Paths.{ahead_here}
use Rattle.running_ahead.proofs.ahead.returns_to_record.Goals as goal

pub returns-then-not-is_own : goal.returns-then-not-is_own
returns-then-not-is_own g c = record { ahead = ahead_here (lent c.args.setting) c.args.machine.now }

pub returns-in_default : goal.returns-in_default
returns-in_default g c = record { ahead = ahead_here (lent c.args.setting) c.args.machine.now }
