-- How many items and members a document's arrays and tables have.
use Rattle.std.proofs.Common.{◌≡◌, List, [], ◌∷◌, length, refl, ap, suc, String, Global}
use Rattle.toml.specs.View.{items_view, members_view}
use Rattle.toml.specs.declared.value.Value.{Value}
use Rattle.input_tables.specs.Shapes.{item_count, member_count}

pub item_count-view : (vs : List Value) → item_count (items_view vs) ≡ length vs
item_count-view [] = refl
item_count-view (v ∷ vs) = ap suc (item_count-view vs)

pub member_count-view : (es : List (String Global × Value)) → member_count (members_view es) ≡ length es
member_count-view [] = refl
member_count-view (e ∷ es) = ap suc (member_count-view es)
