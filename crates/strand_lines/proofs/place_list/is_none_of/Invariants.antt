use Rattle.std.proofs.Common.{◌≡◌, ◌+◌, drop, length}
use Rattle.strand_lines.specs.Lines.{is_unused}
use Rattle.strand_lines.specs.PlaceLists.{cut, total}
use Rattle.strand_lines.proofs.place_list.is_none_of.Given as goal

abbrev pub invariant-loop-count : goal.invariant-loop-count
invariant-loop-count l = (is_unused l.place (cut l.lengths l.numbers) ≡ is_unused l.place (cut (drop l.count-index l.lengths) (drop l.at l.numbers)))
    × (l.at + total (drop l.count-index l.lengths) ≡ length l.numbers)
