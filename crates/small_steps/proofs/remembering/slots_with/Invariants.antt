use Rattle.std.proofs.Common.{◌≡◌, ◌++◌, drop, map}
use Rattle.evaluation.specs.declared.slot.Slot.TheVariants.{Has}
use Rattle.evaluation.specs.Slots.{padded, slots_for}
use Rattle.small_steps.proofs.remembering.slots_with.Given as goal

abbrev pub invariant-loop-value : goal.invariant-loop-value
invariant-loop-value l = slots_for l.size l.values ≡ padded l.size (l.slots.items ++ map Has (drop l.value-index l.values))
