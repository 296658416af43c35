use Rattle.std.proofs.Common.{◌≡◌, ◌++◌, length, drop, take, map}
use Rattle.linked_program.specs.CodeView.{expression as plain}
use Rattle.evaluation.specs.Values.{values_at}
use Rattle.evaluation.proofs.Sequences.{before}
use Rattle.evaluation.proofs.values.evaluate_all.Given as goal

abbrev pub invariant-loop-expression : goal.invariant-loop-expression
invariant-loop-expression l = record {
  answer : (values_at l.tables.tables l.slots (map plain l.expressions)).answer ≡ before l.numbers.items (values_at l.tables.tables l.slots (map plain (drop l.expression-index l.expressions))).answer;
  notes : l.fn.notes ++ (values_at l.tables.tables l.slots (map plain l.expressions)).notes ≡ l.notes ++ (values_at l.tables.tables l.slots (map plain (drop l.expression-index l.expressions))).notes;
  front : take (length l.fn.notes) l.notes ≡ l.fn.notes;
}
