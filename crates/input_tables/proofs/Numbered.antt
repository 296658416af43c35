-- Tables by number, and by name.
use Rattle.std.proofs.Common.{◌≡◌, ℕ, zero, suc, ℤ, List, [], ◌∷◌, length, Option, Some, None, Bool, true, false, cond, refl, ap, sym, ◌∙◌, subst, ◌≤◌, drop, arith}
use Rattle.std.specs.Prelude.{slice_get, slice_set}
use Rattle.std.specs.Str.{bytes_eq}
use Rattle.meaning.specs.Tree.{Name}
use Rattle.meaning.specs.Tables.{Tables, Listed, rows_of, columns_of, index_of, cell_of, has_row, limit_of, sum_of}
use Rattle.meaning.specs.Edits.{table_of, table_changed}
use Rattle.input_tables.specs.Rows.{Row}
use Rattle.input_tables.specs.Edited.{AreFit, RowsFit, CellsFit, names_of, rows_at, columns_at, changed_at, cell_at, has_at, limit_at, sum_at}

pub rows_at-there : (ts : Tables) (n : ℕ) (t : Listed) → slice_get ts n ≡ Some t → rows_at ts n ≡ t.rows
rows_at-there [] n t at = absurd cc
rows_at-there (x ∷ xs) zero t at = let same : x ≡ t = cc in ap (λ y. y.rows) same
rows_at-there (x ∷ xs) (suc n) t at = rows_at-there xs n t at

pub rows_at-absent : (ts : Tables) (n : ℕ) → slice_get ts n ≡ None → rows_at ts n ≡ []
rows_at-absent [] n at = refl
rows_at-absent (x ∷ xs) zero at = absurd cc
rows_at-absent (x ∷ xs) (suc n) at = rows_at-absent xs n at

pub columns_at-there : (ts : Tables) (n : ℕ) (t : Listed) → slice_get ts n ≡ Some t → columns_at ts n ≡ t.columns
columns_at-there [] n t at = absurd cc
columns_at-there (x ∷ xs) zero t at = let same : x ≡ t = cc in ap (λ y. y.columns) same
columns_at-there (x ∷ xs) (suc n) t at = columns_at-there xs n t at

pub columns_at-absent : (ts : Tables) (n : ℕ) → slice_get ts n ≡ None → columns_at ts n ≡ []
columns_at-absent [] n at = refl
columns_at-absent (x ∷ xs) zero at = absurd cc
columns_at-absent (x ∷ xs) (suc n) at = columns_at-absent xs n at

-- ---- by name

rows_either : (b : Bool) (x : Listed) (xs : Tables) (n : ℕ) (rows : List Row) → rows_at xs n ≡ rows
    → rows_at (x ∷ xs) (cond b 0 (suc n)) ≡ cond b x.rows rows
rows_either true x xs n rows h = refl
rows_either false x xs n rows h = h

pub rows_at-place : (ts : Tables) (t : Name) → rows_at ts (index_of (names_of ts) t) ≡ rows_of ts t
rows_at-place [] t = refl
rows_at-place (x ∷ xs) t = rows_either (bytes_eq x.called t) x xs (index_of (names_of xs) t) (rows_of xs t) (rows_at-place xs t)

table_either : (b : Bool) (x : Listed) (xs : Tables) (n : ℕ) (o : Option Listed) → slice_get xs n ≡ o
    → slice_get (x ∷ xs) (cond b 0 (suc n)) ≡ cond b (Some x) o
table_either true x xs n o h = refl
table_either false x xs n o h = h

pub table_of-place : (ts : Tables) (t : Name) → slice_get ts (index_of (names_of ts) t) ≡ table_of ts t
table_of-place [] t = refl
table_of-place (x ∷ xs) t = table_either (bytes_eq x.called t) x xs (index_of (names_of xs) t) (table_of xs t) (table_of-place xs t)

changed_either : (b : Bool) (f : Listed → Listed) (x : Listed) (xs : Tables) (n : ℕ) (ys : Tables) → changed_at f xs n ≡ ys
    → changed_at f (x ∷ xs) (cond b 0 (suc n)) ≡ cond b (f x ∷ xs) (x ∷ ys)
changed_either true f x xs n ys h = refl
changed_either false f x xs n ys h = ap (λ zs. x ∷ zs) h

pub changed_at-place : (f : Listed → Listed) (ts : Tables) (t : Name) → changed_at f ts (index_of (names_of ts) t) ≡ table_changed f ts t
changed_at-place f [] t = refl
changed_at-place f (x ∷ xs) t = changed_either (bytes_eq x.called t) f x xs (index_of (names_of xs) t) (table_changed f xs t) (changed_at-place f xs t)

-- the table of a number that is a name's is the table of the name
pub table_of-number : (ts : Tables) (t : Name) (n : ℕ) → n ≡ index_of (names_of ts) t → slice_get ts n ≡ table_of ts t
table_of-number ts t n place = ap (slice_get ts) place ∙ table_of-place ts t

pub table_of-absent : (ts : Tables) (t : Name) → index_of (names_of ts) t ≡ length ts → table_of ts t ≡ None
table_of-absent ts t place = sym (table_of-place ts t) ∙ ap (slice_get ts) place ∙ past ts
  where
    past : (xs : Tables) → slice_get xs (length xs) ≡ None
    past [] = refl
    past (x ∷ xs) = past xs

pub cell_at-named : (ts : Tables) (n : ℕ) (row : ℤ) (k : ℕ) (t c : Name) → n ≡ index_of (names_of ts) t → k ≡ index_of (columns_of ts t) c
    → cell_at ts n row k ≡ cell_of ts t row c
cell_at-named ts n row k t c table column = rw (table, column, rows_at-place ts t) refl

pub has_at-named : (ts : Tables) (n : ℕ) (row : ℤ) (t : Name) → n ≡ index_of (names_of ts) t → has_at ts n row ≡ has_row ts t row
has_at-named ts n row t table = rw (table, rows_at-place ts t) refl

pub limit_at-named : (ts : Tables) (n : ℕ) (t : Name) → n ≡ index_of (names_of ts) t → limit_at ts n ≡ limit_of ts t
limit_at-named ts n t table = rw (table, rows_at-place ts t) refl

pub sum_at-named : (ts : Tables) (n k : ℕ) (t c : Name) → n ≡ index_of (names_of ts) t → k ≡ index_of (columns_of ts t) c → sum_at ts n k ≡ sum_of ts t c
sum_at-named ts n k t c table column = rw (table, column, rows_at-place ts t) refl

-- ---- changes

-- the table of a number is set
pub set_at : (f : Listed → Listed) (ts : Tables) (n : ℕ) (x y : Listed) → slice_get ts n ≡ Some x → y ≡ f x → slice_set ts n y ≡ changed_at f ts n
set_at f [] n x y at is = absurd cc
set_at f (t ∷ ts) zero x y at is = let same : t ≡ x = cc in ap (λ z. z ∷ ts) (is ∙ ap f (sym same))
set_at f (t ∷ ts) (suc n) x y at is = ap (λ zs. t ∷ zs) (set_at f ts n x y at is)

-- ---- each cell is a number of 64 bits

rows_either_fit : (b : Bool) (xs ys : List Row) → RowsFit xs → RowsFit ys → RowsFit (cond b xs ys)
rows_either_fit true xs ys f g = f
rows_either_fit false xs ys f g = g

rows_of_fit : (ts : Tables) (t : Name) → AreFit ts → RowsFit (rows_of ts t)
rows_of_fit [] t all = λ row column v at. absurd cc
rows_of_fit (x ∷ xs) t all = rows_either_fit (bytes_eq x.called t) x.rows (rows_of xs t) all.0 (rows_of_fit xs t all.1)

pub cells_of_fit : (ts : Tables) → AreFit ts → CellsFit ts
cells_of_fit ts all t row c v at = rows_of_fit ts t all row (index_of (columns_of ts t) c) v at

pub none_left : (ts : Tables) (i : ℕ) → length ts ≤ i → AreFit (drop i ts)
none_left [] zero h = tt
none_left [] (suc i) h = tt
none_left (x ∷ xs) zero h = absurd (omega arith)
none_left (x ∷ xs) (suc i) h = none_left xs i (omega arith)
