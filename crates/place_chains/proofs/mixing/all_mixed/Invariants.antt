use Rattle.std.proofs.Common.{◌≡◌, drop}
use Rattle.place_chains.specs.Mixing.{all_mixed}
use Rattle.place_chains.proofs.mixing.all_mixed.Given as goal

abbrev pub invariant-loop-other : goal.invariant-loop-other
invariant-loop-other l = all_mixed l.sum (drop l.other-index l.others) ≡ all_mixed l.fn.sum l.others
