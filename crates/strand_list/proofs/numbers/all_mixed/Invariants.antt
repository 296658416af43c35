use Rattle.std.proofs.Common.{◌≡◌, drop}
use Rattle.strand_list.specs.Numbers.{all_mixed}
use Rattle.strand_list.proofs.numbers.all_mixed.Given as goal

abbrev pub invariant-loop-other : goal.invariant-loop-other
invariant-loop-other l = all_mixed l.sum (drop l.other-index l.place) ≡ all_mixed l.fn.sum l.place
