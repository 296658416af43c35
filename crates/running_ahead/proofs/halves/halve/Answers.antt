use Rattle.activations.specs.Given.{lent}
use Rattle.running_ahead.proofs.Halving.{halves_ahead}
use Rattle.running_ahead.proofs.halves.halve.Goals as goal

pub returns-in-Ok : goal.returns-in-Ok
returns-in-Ok g c =
    record { ahead = halves_ahead (lent c.args.setting) c.args.site c.args.halvings c.args.share c.args.machine.now c.halve.new.self c.requires.running c.requires.there c.in-Ok.ensures.halved }
