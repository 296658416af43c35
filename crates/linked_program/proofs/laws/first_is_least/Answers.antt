use Rattle.linked_program.proofs.Least.{first_is_least}
use Rattle.linked_program.proofs.laws.first_is_least.Goals as goal

pub returns : goal.returns
returns c = record { least = first_is_least }
