use Rattle.rules_theory.proofs.Numbered.{checked_is_numbered}
use Rattle.rules_theory.proofs.checked_programs_are_numbered.Goals as goal

pub returns : goal.returns
returns c = record { numbered = checked_is_numbered }
