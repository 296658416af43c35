use Rattle.std.proofs.Common.{drop}
use Rattle.input_tables.specs.Edited.{AreFit}
use Rattle.input_tables.proofs.tables.Tables.cells_fit.Given as goal

abbrev pub invariant-loop-table : goal.invariant-loop-table
invariant-loop-table l = AreFit (drop l.table-index l.self.tables) → AreFit l.self.tables
