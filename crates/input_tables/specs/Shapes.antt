-- The shape of a table in a document: exactly its columns, as names, and its rows, as arrays of integers.
use Rattle.std.specs.Prelude.{ℕ, suc, ℤ, List, [], ◌∷◌, ◌++◌, length, Bool, true, false, cond, not, ◌&&◌, nat_eq, nat_le, Option, Some, None, codes}
use Rattle.toml.specs.Data.{Data, Items, no_items, item, Members, no_members, member, get_member, as_str, as_integer, as_array, as_table}
use Rattle.meaning.specs.Tree.{Name}
use Rattle.meaning.specs.Tables.{Listed, row_of, is_there, index_of}
use Rattle.meaning.specs.Edits.{in_range, row_put}
use Rattle.input_tables.specs.Names.{is_name}
use Rattle.input_tables.specs.Rows.{Row}

-- what comes of a value, where there is one
abbrev pub where_some : {A B : Type 0} → Option A → (A → Option B) → Option B
where_some None f = None
where_some (Some x) f = f x

-- a value that passes a test
abbrev pub passing : {A : Type 0} → Bool → A → Option A
passing true x = Some x
passing false x = None

abbrev pub item_count : Items → ℕ
item_count no_items = 0
item_count (item d ds) = suc (item_count ds)

abbrev pub member_count : Members → ℕ
member_count no_members = 0
member_count (member k d ms) = suc (member_count ms)

-- ---- columns

-- a name that isn't yet among the columns
abbrev pub new_column : List Name → Name → Option Name
new_column cs c = passing (is_name c && nat_eq (index_of cs c) (length cs)) c

abbrev pub columns_from : List Name → Items → Option (List Name)
columns_from cs no_items = Some cs
columns_from cs (item d rest) = where_some (where_some (as_str d) (new_column cs)) (λ c. columns_from (cs ++ c ∷ []) rest)

-- 1 to 8 distinct names
abbrev pub columns_in : Items → Option (List Name)
columns_in ds = cond (nat_le 1 (item_count ds) && nat_le (item_count ds) 8) (columns_from [] ds) None

-- ---- rows

abbrev pub integers_from : List ℤ → Items → Option (List ℤ)
integers_from ns no_items = Some ns
integers_from ns (item d rest) = where_some (as_integer d) (λ n. integers_from (ns ++ n ∷ []) rest)

-- the number of a row
abbrev pub number_in : Data → Option ℤ
number_in d = where_some (as_integer d) (λ n. passing (in_range n) n)

-- one value for each of so many columns
abbrev pub values_in : ℕ → Items → Option (List ℤ)
values_in k ds = cond (nat_eq (item_count ds) k) (integers_from [] ds) None

abbrev pub row_in : ℕ → Items → Option Row
row_in k no_items = None
row_in k (item d ds) = where_some (number_in d) (λ n. where_some (values_in k ds) (λ vs. Some (n, vs)))

abbrev pub row_at : ℕ → Data → Option Row
row_at k d = where_some (as_array d) (row_in k)

-- the rows with one more, whose number is new
abbrev pub with_row : List Row → Row → Option (List Row)
with_row rows r = passing (not (is_there (row_of rows r.0))) (row_put r.0 r.1 rows)

abbrev pub rows_from : ℕ → List Row → Items → Option (List Row)
rows_from k rows no_items = Some rows
rows_from k rows (item d rest) = where_some (where_some (row_at k d) (with_row rows)) (λ more. rows_from k more rest)

-- ---- tables

-- the array at a key
abbrev pub array_at : List ℕ → Members → Option Items
array_at k ms = where_some (get_member k ms) as_array

abbrev pub with_rows_of : Name → Members → List Name → Option Listed
with_rows_of name ms columns =
    where_some (array_at (codes "rows") ms) (λ ds. where_some (rows_from (length columns) [] ds) (λ rows.
    Some (record { called = name; columns = columns; rows = rows })))

abbrev pub listed_in : Name → Members → Option Listed
listed_in name ms =
    cond (nat_eq (member_count ms) 2) (where_some (array_at (codes "columns") ms) (λ ds. where_some (columns_in ds) (with_rows_of name ms))) None

-- the table of a key and its value, or none where it is faulty
abbrev pub table_in : Name → Data → Option Listed
table_in name d = cond (is_name name) (where_some (as_table d) (listed_in name)) None
