use Rattle.std.proofs.Common.{◌≡◌, ◌+◌, drop}
use Rattle.strand_list.specs.Pages.{shown, position}
use Rattle.strand_list.proofs.lines.find.Given as goal

abbrev pub invariant-loop-k : goal.invariant-loop-k
invariant-loop-k l = position l.place (shown l.lines) ≡ l.k + position l.place (shown (drop l.k l.lines))
