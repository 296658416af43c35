use Rattle.std.proofs.Common.{◌≡◌, drop, [], map, string_bytes}
use Rattle.toml.specs.View.{items_view}
use Rattle.input_tables.specs.Shapes.{columns_from}
use Rattle.input_tables.proofs.shapes.columns_from.Given as goal

abbrev pub invariant-loop-item : goal.invariant-loop-item
invariant-loop-item l = columns_from (map string_bytes l.columns.items) (items_view (drop l.item-index l.items)) ≡ columns_from [] (items_view l.items)
