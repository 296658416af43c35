use Rattle.std.proofs.Common.{◌≡◌, drop}
use Rattle.strand_list.specs.Pages.{shown, are_neighbours}
use Rattle.strand_list.proofs.lines.are_neighbours.Given as goal

abbrev pub invariant-loop-k : goal.invariant-loop-k
invariant-loop-k l = are_neighbours l.left l.right (shown l.lines) ≡ are_neighbours l.left l.right (shown (drop l.k l.lines))
