use Rattle.procedure_parser.proofs.OneMeaning.{one_defined}
use Rattle.procedure_parser.proofs.laws.laws_of_defined_programs.Goals as goal

pub returns : goal.returns
returns c = record { defined = one_defined }
