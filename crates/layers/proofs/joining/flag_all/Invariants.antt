use Rattle.std.proofs.Common.{◌≡◌}
use Rattle.layers.proofs.Flags.{raised}
use Rattle.layers.proofs.joining.flag_all.Given as goal

abbrev pub invariant-loop-i : goal.invariant-loop-i
invariant-loop-i l = l.flags.items ≡ raised l.i l.fn.flags.items l.others
