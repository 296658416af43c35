use Rattle.command_line.proofs.Lines.{form_of, value_given_by, refused_as}
use Rattle.command_line.proofs.line.matched.Goals as goal

pub returns-in-Ok-try_get_matches_from-clause-form : goal.returns-in-Ok-try_get_matches_from-clause-form
returns-in-Ok-try_get_matches_from-clause-form c = form_of _ _ c.in-Ok.ensures c.in-Ok-try_get_matches_from.ensures.kinds

pub returns-in-Ok-try_get_matches_from-clause-given : goal.returns-in-Ok-try_get_matches_from-clause-given
returns-in-Ok-try_get_matches_from-clause-given c = value_given_by _ _ _ c.in-Ok.ensures c.in-Ok-try_get_matches_from.ensures.matches

pub returns-in-Err-clause-refused : goal.returns-in-Err-clause-refused
returns-in-Err-clause-refused c = refused_as _ _ c.in-Err.error _ c.in-Ok.ensures c.in-Err.ensures.kinds c.refusal.ensures
