use Rattle.std.proofs.Common.{◌≡◌, map, drop, Err}
use Rattle.linked_program.specs.CodeView.{expression as plain}
use Rattle.meaning.specs.declared.FaultKind.TheVariants.{MissingRow}
use Rattle.evaluation.specs.Values.{values_at}
use Rattle.program_reasons.proofs.missing_values.Asked.halted.Given as goal

abbrev pub invariant-loop-expression : goal.invariant-loop-expression
invariant-loop-expression l =
    (values_at l.ground.tables.now.tables l.slots (map (λ e. plain e.now) (drop l.expression-index l.expressions))).answer ≡ Err MissingRow → (values_at l.ground.tables.now.tables l.slots (map (λ e. plain e.now) l.expressions)).answer ≡ Err MissingRow
