use Rattle.std.proofs.Common.{◌≡◌, map, drop}
use Rattle.meaning.specs.TreeView.{term}
use Rattle.meaning.specs.Edits.{same_terms}
use Rattle.tree_equality.proofs.expressions.same_expressions.Given as goal

abbrev pub invariant-loop-i : goal.invariant-loop-i
invariant-loop-i l = same_terms (map term l.left) (map term l.right) ≡ same_terms (map term (drop l.i l.left)) (map term (drop l.i l.right))
