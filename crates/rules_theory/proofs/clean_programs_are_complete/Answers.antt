use Rattle.rules_theory.proofs.Numbered.{is_complete}
use Rattle.rules_theory.proofs.clean_programs_are_complete.Goals as goal

pub returns : goal.returns
returns c = record { complete = is_complete }
