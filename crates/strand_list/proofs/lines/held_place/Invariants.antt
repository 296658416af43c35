use Rattle.std.proofs.Common.{◌≡◌, drop}
use Rattle.strand_list.specs.Pages.{shown, held_place}
use Rattle.strand_list.proofs.lines.held_place.Given as goal

abbrev pub invariant-loop-line : goal.invariant-loop-line
invariant-loop-line l = held_place l.worker (shown l.lines) ≡ held_place l.worker (shown (drop l.line-index l.lines))
