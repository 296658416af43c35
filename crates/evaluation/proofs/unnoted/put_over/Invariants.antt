use Rattle.std.proofs.Common.{◌≡◌, drop, length, map}
use Rattle.linked_program.specs.CodeView.{expression as plain}
use Rattle.evaluation.specs.Slots.{slots_for}
use Rattle.evaluation.specs.Values.{values_at, changed}
use Rattle.evaluation.proofs.Padded.{so_far}
use Rattle.evaluation.proofs.unnoted.put_over.Given as goal

abbrev pub invariant-loop-place : goal.invariant-loop-place
invariant-loop-place l = record {
  long : length l.made.items ≡ length l.fn.made.items;
  answer : changed (slots_for (length l.fn.made.items)) (values_at l.tables.tables l.slots (map plain l.arguments)).answer
      ≡ changed (so_far l.made.items (length l.fn.made.items) l.place) (values_at l.tables.tables l.slots (drop l.place (map plain l.arguments))).answer;
}
