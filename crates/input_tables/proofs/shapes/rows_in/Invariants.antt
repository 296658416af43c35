use Rattle.std.proofs.Common.{◌≡◌, drop, [], length}
use Rattle.toml.specs.View.{items_view}
use Rattle.input_tables.specs.Rows.{AreWide}
use Rattle.input_tables.specs.Sums.{AreTotals}
use Rattle.input_tables.specs.Shapes.{rows_from}
use Rattle.input_tables.proofs.shapes.rows_in.Given as goal

abbrev pub invariant-loop-item : goal.invariant-loop-item
invariant-loop-item l = record {
  read : rows_from l.columns l.rows (items_view (drop l.item-index l.items)) ≡ rows_from l.columns [] (items_view l.items);
  wide : AreWide l.columns l.rows;
  sums : length l.sums.items ≡ l.columns;
  totals : AreTotals l.sums.items l.rows;
}
