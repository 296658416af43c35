use Rattle.explanations.proofs.expressions.+writing.Given as goal

abbrev pub decreases-push_part : goal.decreases-push_part
decreases-push_part l = l.left

abbrev pub decreases-push_bare : goal.decreases-push_bare
decreases-push_bare l = l.left
