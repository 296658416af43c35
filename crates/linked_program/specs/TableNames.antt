-- The names of tables and of their columns.
use Rattle.std.specs.Prelude.{Bool, false, cond, ◌||◌, List, [], ◌∷◌, Option, Some, None, map, string_bytes}
use Rattle.std.specs.Str.{bytes_eq}
use Rattle.meaning.specs.Tree.{Name}
use Rattle.meaning.specs.Tables.{Tables}
use Rattle.linked_program.specs.declared.tables.TableNames.{TableNames}

pub record Columned : Type 0 where
  pub called : Name
  pub columns : List Name

abbrev pub columned : TableNames → Columned
columned t = record { called = string_bytes t.name; columns = map string_bytes t.columns.items }

-- the names of a table model's tables and columns
abbrev pub columned_of : Tables → List Columned
columned_of tables = map (λ t. record { called = t.called; columns = t.columns }) tables

-- the table of a name
abbrev pub table_of : List Columned → Name → Option Columned
table_of [] t = None
table_of (x ∷ xs) t = cond (bytes_eq x.called t) (Some x) (table_of xs t)

abbrev pub has_name : List Name → Name → Bool
has_name [] x = false
has_name (y ∷ ys) x = bytes_eq y x || has_name ys x
