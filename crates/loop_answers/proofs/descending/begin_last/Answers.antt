use Rattle.activations.specs.Given.{lent}
use Rattle.loop_answers.proofs.Levels.{turns_over}
use Rattle.loop_answers.proofs.descending.begin_last.Goals as goal

pub returns-then-is_empty-clause-ahead : goal.returns-then-is_empty-clause-ahead
returns-then-is_empty-clause-ahead g c =
    turns_over (lent c.args.setting) c.args.turns.site c.args.halvings c.args.turns.share c.args.machine.now c.requires.there.running c.requires.there.work c.halve.result c.halve.new.self c.requires.turns c.halve.ensures.halved c.halve.ensures.unchanged
