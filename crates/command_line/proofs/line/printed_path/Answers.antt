use Rattle.std.proofs.Common.{◌∙◌}
use Rattle.command_line.proofs.Lines.{no_path, no_print, path_found}
use Rattle.command_line.proofs.line.printed_path.Goals as goal

pub returns-in-Ok-try_get_matches_from-clause-found : goal.returns-in-Ok-try_get_matches_from-clause-found
returns-in-Ok-try_get_matches_from-clause-found c =
    path_found _ _ _ _ c.in-Ok.ensures c.in-Ok-try_get_matches_from.ensures.matches c.in-Ok-try_get_matches_from.ensures.kinds c.get_str.ensures

pub returns-in-Ok-try_get_matches_from-clause-none : goal.returns-in-Ok-try_get_matches_from-clause-none
returns-in-Ok-try_get_matches_from-clause-none c =
    no_path _ _ _ _ c.in-Ok.ensures c.in-Ok-try_get_matches_from.ensures.matches c.get_str.ensures

pub returns : goal.returns
returns c = record {
  found = tt;
  none = no_print _ _ c.in-Err.error c.in-Ok.ensures c.in-Err.ensures.kinds (λ same. c.in_default-kind.not-OutOfMemory (c.kind.ensures ∙ same));
  memory = tt;
}
