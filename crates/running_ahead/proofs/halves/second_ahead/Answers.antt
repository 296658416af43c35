use Rattle.activations.specs.Given.{lent}
use Rattle.running_ahead.proofs.Halving.{second_ahead}
use Rattle.running_ahead.proofs.halves.second_ahead.Goals as goal

pub returns-in-Ok : goal.returns-in-Ok
returns-in-Ok g c =
    record { ahead = second_ahead (lent c.args.setting) c.args.site c.args.halvings c.args.share c.args.machine.now c.second_half.new.self c.requires.running c.requires.there c.in-Ok.ensures.second }
