use Rattle.spawn_checker.proofs.NameForms.{names_agree}
use Rattle.spawn_checker.proofs.laws.table_names_are_scanned.Goals as goal

pub returns : goal.returns
returns c = record { names = names_agree }
