use Rattle.std.proofs.Common.{◌≡◌, ◌+◌, ◌*◌, drop}
use Rattle.meaning.specs.TreeView.{block, statements}
use Rattle.meaning.specs.Edits.{same_body}
use Rattle.tree_equality.proofs.actions.+same.Given as goal

abbrev pub decreases-same_block : goal.decreases-same_block
decreases-same_block l = 3 * l.our_levels

abbrev pub decreases-same_action : goal.decreases-same_action
decreases-same_action l = 3 * l.our_levels + 1

abbrev pub decreases-same_statements : goal.decreases-same_statements
decreases-same_statements l = 3 * l.our_levels + 2

abbrev pub invariant-same_statements-loop-i : goal.invariant-same_statements-loop-i
invariant-same_statements-loop-i l =
    same_body (statements (block l.ours l.our_levels) l.left) (statements (block l.theirs l.their_levels) l.right)
    ≡ same_body (statements (block l.ours l.our_levels) (drop l.i l.left)) (statements (block l.theirs l.their_levels) (drop l.i l.right))
