-- Each number leads to what its name means.
use Rattle.std.specs.Prelude.{◌≡◌, ℕ, Option, Some, None, slice_get, Contains}
use Rattle.meaning.specs.Tree.{Name, Red, Tree}
use Rattle.meaning.specs.Statements.{reducers, procedure_of, numbered}
use Rattle.meaning.specs.Tables.{Tables, columns_of, index_of}
use Rattle.meaning.specs.Edits.{table_of}
use Rattle.linked_program.specs.TableNames.{columned_of}
use Rattle.linked_program.specs.Procedures.{procedures}
use Rattle.linked_program.specs.Linked.{procedure_number, reducer_number, table_number, column_number}

abbrev pub with_number : ℕ → Option Red → Option (ℕ × Red)
with_number n None = None
with_number n (Some r) = Some (n, r)

-- the number of a procedure's name is that of the procedure which the definitions enter
abbrev pub ProcedureIs : Tree → Name → Type 0
ProcedureIs t f = slice_get (procedures t) (procedure_number (procedures t) f) ≡ procedure_of t f

-- the number of a reducer's name is that of the reducer which the definitions update
abbrev pub ReducerIs : Tree → Name → Type 0
ReducerIs t r = with_number (reducer_number (reducers t) r) (slice_get (reducers t) (reducer_number (reducers t) r)) ≡ numbered 0 (reducers t) r

-- the number of a table's name is that of the table which the definitions find by it
abbrev pub TableIs : Tables → Name → Type 0
TableIs tables u = slice_get tables (table_number (columned_of tables) u) ≡ table_of tables u

-- the number of a column's name is the place at which the definitions read a row, and that of the name where there is such a column
pub record ColumnIs (tables : Tables) (u c : Name) : Type 0 where
  pub place : column_number (columned_of tables) u c ≡ index_of (columns_of tables u) c
  pub name : Contains (columns_of tables u) c → slice_get (columns_of tables u) (column_number (columned_of tables) u c) ≡ Some c
