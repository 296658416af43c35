use Rattle.std.proofs.Common.{◌∙◌, sym}
use Rattle.single_rules.proofs.Steps.{ended_again}
use Rattle.single_rules.proofs.statements.note_arguments.Goals as goal

pub returns-then-not-was_known-clause-looped : goal.returns-then-not-was_known-clause-looped
returns-then-not-was_known-clause-looped c =
    rw (c.end.ensures.ended, c.bind.ensures.bound) (ended_again c.args.now c.args.scope.now c.args.name (sym c.is_known-was_known.ensures.known ∙ c.if-not-was_known.true))
