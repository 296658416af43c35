use Rattle.std.proofs.Common.{◌≡◌, drop}
use Rattle.activations.specs.Waiting.{none_still_waits}
use Rattle.activations.proofs.waiting.none_still_waits.Given as goal

abbrev pub invariant-loop-slot : goal.invariant-loop-slot
invariant-loop-slot l = none_still_waits l.start l.left l.instance (drop l.slot-index l.slots) ≡ none_still_waits l.start l.left l.instance l.slots
