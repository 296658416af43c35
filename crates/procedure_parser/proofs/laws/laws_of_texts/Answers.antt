use Rattle.procedure_parser.proofs.OneMeaning.{one_source, one_tree, one_list}
use Rattle.procedure_parser.proofs.laws.laws_of_texts.Goals as goal

pub returns-clause-source : goal.returns-clause-source
returns-clause-source c = one_source

pub returns-clause-tree : goal.returns-clause-tree
returns-clause-tree c = one_tree

pub returns-clause-lines : goal.returns-clause-lines
returns-clause-lines c = one_list
