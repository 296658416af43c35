-- A table in a document whose members and columns are known.
use Rattle.std.proofs.Common.{◌≡◌, List, length, Some, String, Global, refl, codes}
use Rattle.meaning.specs.Tree.{Name}
use Rattle.toml.specs.Data.{Items}
use Rattle.toml.specs.View.{members_view}
use Rattle.toml.specs.declared.value.Value.{Value}
use Rattle.input_tables.specs.Shapes.{array_at, columns_in, listed_in, with_rows_of}
use Rattle.input_tables.proofs.Counts.{member_count-view}

pub listed_in-columns : (es : List (String Global × Value)) (name : Name) (ds : Items) (cs : List Name) → length es ≡ 2
    → array_at (codes "columns") (members_view es) ≡ Some ds → columns_in ds ≡ Some cs
    → listed_in name (members_view es) ≡ with_rows_of name (members_view es) cs
listed_in-columns es name ds cs two at columns = rw (member_count-view es, two, at, columns) refl
