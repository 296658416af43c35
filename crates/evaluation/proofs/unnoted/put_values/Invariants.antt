use Rattle.std.proofs.Common.{◌≡◌, ◌++◌, drop, map}
use Rattle.linked_program.specs.CodeView.{expression as plain}
use Rattle.evaluation.specs.declared.slot.Slot.TheVariants.{Has}
use Rattle.evaluation.specs.Slots.{padded, slots_for}
use Rattle.evaluation.specs.Values.{values_at, changed}
use Rattle.evaluation.proofs.unnoted.put_values.Given as goal

abbrev pub invariant-loop-argument : goal.invariant-loop-argument
invariant-loop-argument l = changed (slots_for l.size) (values_at l.tables.tables l.slots (map plain l.arguments)).answer
    ≡ changed (λ vs. padded l.size (l.made.items ++ map Has vs)) (values_at l.tables.tables l.slots (map plain (drop l.argument-index l.arguments))).answer
