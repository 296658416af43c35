use Rattle.std.proofs.Common.{◌≡◌, drop}
use Rattle.meaning.specs.Strands.{may_fold}
use Rattle.strand_list.specs.Pages.{shown}
use Rattle.strand_list.proofs.lines.may_fold.Given as goal

abbrev pub invariant-loop-k : goal.invariant-loop-k
invariant-loop-k l = may_fold (shown l.lines) l.left l.right ≡ may_fold (shown (drop l.k l.lines)) l.left l.right
