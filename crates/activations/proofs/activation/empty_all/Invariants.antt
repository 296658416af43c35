use Rattle.std.proofs.Common.{◌≡◌, map, take, drop, ◌++◌}
use Rattle.activations.specs.Slots.{emptied}
use Rattle.activations.proofs.activation.empty_all.Given as goal

abbrev pub invariant-loop-i : goal.invariant-loop-i
invariant-loop-i l = l.slots ≡ map emptied (take l.i l.fn.slots) ++ drop l.i l.fn.slots
