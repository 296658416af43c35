use Rattle.std.proofs.Common.{◌≡◌, drop, [], length}
use Rattle.toml.specs.View.{items_view}
use Rattle.input_tables.specs.Shapes.{integers_from}
use Rattle.input_tables.proofs.shapes.integers_in.Given as goal

abbrev pub invariant-loop-item : goal.invariant-loop-item
invariant-loop-item l = record {
  read : integers_from l.numbers.items (items_view (drop l.item-index l.items)) ≡ integers_from [] (items_view l.items);
  many : length l.numbers.items ≡ l.item-index;
}
