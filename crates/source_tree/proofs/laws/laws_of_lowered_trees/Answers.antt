use Rattle.source_tree.proofs.LoweredTrees.{written_back, lowered_back}
use Rattle.source_tree.proofs.laws.laws_of_lowered_trees.Goals as goal

pub returns-clause-kind : goal.returns-clause-kind
returns-clause-kind c = written_back

pub returns-clause-tree : goal.returns-clause-tree
returns-clause-tree c = lowered_back
