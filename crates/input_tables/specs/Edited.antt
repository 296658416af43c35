-- Tables that are edited, and what is read of them by number.
use Rattle.std.specs.Prelude.{◌≡◌, ◌≤◌, ℕ, zero, suc, ℤ, pos, Bool, List, [], ◌∷◌, length, Option, Some, Result, Err, IsOk, map}
use Rattle.std.specs.Int.{w64, int_wrap}
use Rattle.meaning.specs.Tree.{Name}
use Rattle.meaning.specs.TreeView.{Lined}
use Rattle.meaning.specs.Records.{Revised}
use Rattle.monoid_laws.specs.Kinds.{Fits}
use Rattle.meaning.specs.Tables.{Tables, Listed, row_of, at_column, is_there, above_all, column_total, cell_of}
use Rattle.meaning.specs.Edits.{row_put, row_gone, with_rows, table_changed, Standing, EditRefusal, UnknownTable, WrongColumns, RowRange, NoRow, Exhausted}
use Rattle.input_tables.specs.Rows.{Row}
use Rattle.input_tables.specs.Befores.{PlainBefore, total_at}
use Rattle.table_parts.specs.declared.refusals.RowError.{RowError}
use Rattle.table_parts.specs.declared.refusals.RowError.TheVariants as e
use Rattle.input_tables.specs.declared.refusal.PutError.{PutError}
use Rattle.input_tables.specs.declared.refusal.PutError.TheVariants.{NoMemory, Refused}

-- tables, how many of their edits were accepted, and what the row of the last one was before it
pub record Edited : Type 0 where
  pub tables : Tables
  pub edits : ℕ
  pub was : PlainBefore

-- the tables beside a program and its lines
abbrev pub beside : Revised → List Lined → Edited → Standing
beside program lines now = record { program = program; lines = lines; tables = now.tables; edits = now.edits }

abbrev pub names_of : Tables → List Name
names_of ts = map (λ t. t.called) ts

-- the rows of a table, and its columns, by the table's number
abbrev pub rows_at : Tables → ℕ → List Row
rows_at [] n = []
rows_at (t ∷ ts) zero = t.rows
rows_at (t ∷ ts) (suc n) = rows_at ts n

abbrev pub columns_at : Tables → ℕ → List Name
columns_at [] n = []
columns_at (t ∷ ts) zero = t.columns
columns_at (t ∷ ts) (suc n) = columns_at ts n

abbrev pub cell_at : Tables → ℕ → ℤ → ℕ → Option ℤ
cell_at ts table row column = at_column (row_of (rows_at ts table) row) column

abbrev pub has_at : Tables → ℕ → ℤ → Bool
has_at ts table row = is_there (row_of (rows_at ts table) row)

abbrev pub limit_at : Tables → ℕ → ℤ
limit_at ts table = above_all (pos 0) (rows_at ts table)

abbrev pub sum_at : Tables → ℕ → ℕ → ℤ
sum_at ts table column = int_wrap w64 (column_total column (rows_at ts table))

-- the table of a number changed
abbrev pub changed_at : (Listed → Listed) → Tables → ℕ → Tables
changed_at f [] n = []
changed_at f (t ∷ ts) zero = f t ∷ ts
changed_at f (t ∷ ts) (suc n) = t ∷ changed_at f ts n

abbrev pub row_into : ℤ → List ℤ → Listed → Listed
row_into row vs t = with_rows t (row_put row vs t.rows)

abbrev pub row_out_of : ℤ → Listed → Listed
row_out_of row t = with_rows t (row_gone row t.rows)

-- one more edit was accepted, which changed the table of a name, beside a program and its lines
abbrev pub edited : Revised → List Lined → (Listed → Listed) → Edited → Name → Standing
edited program lines f now t = record { program = program; lines = lines; tables = table_changed f now.tables t; edits = suc now.edits }

-- ---- what a row was before an edit

-- so the tables have it, with a sum for each column
pub record IsBefore (tables : Tables) (b : PlainBefore) : Type 0 where
  pub values_are : row_of (rows_at tables b.table) b.row ≡ b.values
  pub limit_is : limit_at tables b.table ≡ b.limit
  pub sums_are : (c : ℕ) → sum_at tables b.table c ≡ total_at b.sums c
  pub wide : length b.sums ≡ length (columns_at tables b.table)

-- it is that row, as these tables have it
pub record IsNoted (tables : Tables) (table : ℕ) (row : ℤ) (was : PlainBefore) : Type 0 where
  pub table_is : was.table ≡ table
  pub row_is : was.row ≡ row
  pub before : IsBefore tables was

-- no table has more columns than that
abbrev pub HasNoMore : Tables → ℕ → Type 0
HasNoMore ts most = (n : ℕ) → length (columns_at ts n) ≤ most

-- the definitions' refusal that the refusal of an edit of a row is
abbrev pub row_refusal : RowError → EditRefusal
row_refusal e.UnknownTable = UnknownTable
row_refusal e.WrongColumns = WrongColumns
row_refusal e.RowRange = RowRange
row_refusal e.NoRow = NoRow
row_refusal e.Exhausted = Exhausted

-- the error is that of this answer to a put; memory is refused only where it would be accepted
abbrev pub IsPutCause : Result Standing EditRefusal → PutError → Type 0
IsPutCause answer NoMemory = IsOk answer
IsPutCause answer (Refused error) = answer ≡ Err (row_refusal error)

-- each cell of the rows, and of the tables, is a number of 64 bits
abbrev pub RowsFit : List Row → Type 0
RowsFit rows = (row : ℤ) (column : ℕ) (v : ℤ) → at_column (row_of rows row) column ≡ Some v → Fits v

abbrev pub AreFit : Tables → Type 0
AreFit [] = Unit {0}
AreFit (t ∷ ts) = RowsFit t.rows × AreFit ts

abbrev pub CellsFit : Tables → Type 0
CellsFit ts = (t : Name) (row : ℤ) (c : Name) (v : ℤ) → cell_of ts t row c ≡ Some v → Fits v
