use Rattle.std.proofs.Common.{◌≡◌, map, drop, Err, IsOk}
use Rattle.linked_program.specs.CodeView.{expression as plain}
use Rattle.meaning.specs.declared.FaultKind.TheVariants.{MissingRow}
use Rattle.evaluation.specs.Values.{values_at}
use Rattle.program_reasons.proofs.missing_values.ask_all.Given as goal

abbrev pub invariant-loop-expression : goal.invariant-loop-expression
invariant-loop-expression l = record {
  have : IsOk (values_at l.ground.tables.now.tables l.slots (map plain (drop l.expression-index l.expressions))).answer → IsOk (values_at l.ground.tables.now.tables l.slots (map plain l.expressions)).answer;
  miss : (values_at l.ground.tables.now.tables l.slots (map plain (drop l.expression-index l.expressions))).answer ≡ Err MissingRow → (values_at l.ground.tables.now.tables l.slots (map plain l.expressions)).answer ≡ Err MissingRow;
}
