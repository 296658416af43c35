use Rattle.std.proofs.Common.{◌≡◌, map, take, drop, ◌++◌}
use Rattle.positions.specs.Moves.{settled_slot}
use Rattle.activations.proofs.activation.give_all.Given as goal

abbrev pub invariant-loop-i : goal.invariant-loop-i
invariant-loop-i l = l.slots.items ≡ map (settled_slot l.child l.value) (take l.i l.fn.slots.items) ++ drop l.i l.fn.slots.items
