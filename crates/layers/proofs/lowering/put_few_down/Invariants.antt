use Rattle.std.proofs.Common.{◌≡◌}
use Rattle.layers.proofs.Flags.{lowered}
use Rattle.layers.proofs.lowering.put_few_down.Given as goal

abbrev pub invariant-loop-i : goal.invariant-loop-i
invariant-loop-i l = l.flags.items ≡ lowered l.i l.fn.flags.items
