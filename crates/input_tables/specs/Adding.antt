-- Tables that are added one by one, under the rules of a document's tables, and the document's table that each one is.
use Rattle.std.specs.Prelude.{◌≡◌, List, [], ◌∷◌, ◌++◌, length, Bool, true, false, not, ◌&&◌, nat_eq, nat_le, Option, Some, None, codes}
use Rattle.toml.specs.Data.{Data, string, array, table, Items, no_items, item, no_members, member}
use Rattle.meaning.specs.Tree.{Name}
use Rattle.meaning.specs.Tables.{Tables, Listed, index_of, is_there}
use Rattle.meaning.specs.Edits.{table_of}
use Rattle.input_tables.specs.Names.{is_name}
use Rattle.input_tables.specs.Edited.{Edited}
use Rattle.input_tables.specs.declared.refusal.AddError.{AddError}
use Rattle.input_tables.specs.declared.refusal.AddError.TheVariants as e

-- refused for the first cause that is there
abbrev pub unless : Bool → AddError → Option AddError → Option AddError
unless true error rest = Some error
unless false error rest = rest

-- why these names can't follow as columns behind those so far: the first that is no name, or that stands already
abbrev pub column_refusal : List Name → List Name → Option AddError
column_refusal cs [] = None
column_refusal cs (c ∷ rest) =
    unless (not (is_name c)) e.ColumnName (unless (not (nat_eq (index_of cs c) (length cs))) e.ColumnTwice (column_refusal (cs ++ c ∷ []) rest))

-- why a table of this name and these columns can't stand anywhere
abbrev pub own_refusal : Name → List Name → Option AddError
own_refusal name cs =
    unless (not (is_name name)) e.TableName (unless (not (nat_le 1 (length cs) && nat_le (length cs) 8)) e.ColumnCount (column_refusal [] cs))

-- why it isn't added to these tables
abbrev pub refusal : Tables → Name → List Name → Option AddError
refusal ts name cs = unless (nat_le 64 (length ts)) e.TooManyTables (unless (is_there (table_of ts name)) e.TableTwice (own_refusal name cs))

-- the error is that refusal; memory is refused only where the table would be added
abbrev pub IsAddCause : Option AddError → AddError → Type 0
IsAddCause refused e.NoMemory = refused ≡ None
IsAddCause refused error = refused ≡ Some error

-- a table without rows
abbrev pub without_rows : Name → List Name → Listed
without_rows name cs = record { called = name; columns = cs; rows = [] }

-- the tables and one more behind them; it is no edit
abbrev pub with_table : Edited → Listed → Edited
with_table old t = record { tables = old.tables ++ t ∷ []; edits = old.edits; was = old.was }

-- ---- in a document

abbrev pub texts : List Name → Items
texts [] = no_items
texts (c ∷ cs) = item (string c) (texts cs)

-- the value of a table with these columns and without rows
abbrev pub rowless : List Name → Data
rowless cs = table (member (codes "columns") (array (texts cs)) (member (codes "rows") (array no_items) no_members))

-- what nothing refuses
abbrev pub unless_refused : {A : Type 0} → Option AddError → A → Option A
unless_refused None x = Some x
unless_refused (Some error) x = None
