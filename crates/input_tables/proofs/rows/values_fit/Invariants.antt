use Rattle.std.proofs.Common.{drop}
use Rattle.input_tables.specs.Rows.{AreCells}
use Rattle.input_tables.proofs.rows.values_fit.Given as goal

abbrev pub invariant-loop-value : goal.invariant-loop-value
invariant-loop-value l = AreCells (drop l.value-index l.values) → AreCells l.values
