-- A table's rows are as wide as it has columns, so a row as it is now has all its sums.
use Rattle.std.proofs.Common.{drop_of_length-le, add-one, append-nil, append_assoc, drop, get_or, ◌≡◌, ℕ, zero, suc, inl, inr, ◌+◌, ◌<◌, ◌≤◌, ℤ, pos, ◌+ℤ◌, Bool, true, false, cond, List, [], ◌∷◌, ◌++◌, length, Option, Some, None, IfSome, option_map, Bor, refl, sym, ap, ap₂, ◌∙◌, arith}
use Rattle.std.specs.Prelude.{slice_get}
use Rattle.std.specs.Int.{w64, int_wrap}
use Rattle.std.specs.Ordering.{int_eq}
use Rattle.std.proofs.lemmas.Bool.Decides.{leb_tells}
use Rattle.meaning.specs.Records.{same_number}
use Rattle.meaning.specs.Tables.{Tables, row_of, at_column, amount_in, column_total}
use Rattle.input_tables.specs.Befores.{total_at}
use Rattle.input_tables.specs.Edited.{IsBefore, rows_at, columns_at, sum_at}
use Rattle.input_tables.specs.Rows.{Row, AreWide}
use Rattle.input_tables.proofs.Notes.{row_wide}
use Rattle.evaluation.specs.declared.note.Note.{Note}
use Rattle.evaluation.specs.declared.note.Note.TheVariants.{Cell, Sum}
use Rattle.record_index.specs.Befores.{before_of, sums_from, cells_only, row_only, sums_only}

-- ---- sums of columns one after another

pub length_sums : (tables : Tables) (t d k : ℕ) → length (sums_from tables t d k) ≡ k
length_sums tables t d zero = refl
length_sums tables t d (suc k) = ap suc (length_sums tables t (suc d) k)

total_of : (tables : Tables) (t d k c : ℕ) → c < k → total_at (sums_from tables t d k) c ≡ sum_at tables t (d + c)
total_of tables t d zero c l = absurd (omega (arith, l))
total_of tables t d (suc k) zero l = ap (sum_at tables t) (omega arith)
total_of tables t d (suc k) (suc c) l = total_of tables t (suc d) k c (omega (arith, l)) ∙ ap (sum_at tables t) (omega arith)

pub total_is : (tables : Tables) (t n c : ℕ) (v : ℤ) → c < n → v ≡ sum_at tables t c → v ≡ total_at (sums_from tables t 0 n) c
total_is tables t n c v l e = e ∙ ap (sum_at tables t) (omega arith) ∙ sym (total_of tables t 0 n c l)

none_beyond : (tables : Tables) (t d k c : ℕ) → k ≤ c → total_at (sums_from tables t d k) c ≡ pos 0
none_beyond tables t d zero c l = refl
none_beyond tables t d (suc k) zero l = absurd (omega (arith, l))
none_beyond tables t d (suc k) (suc c) l = none_beyond tables t (suc d) k c (omega (arith, l))

-- ---- rows of one width

get_beyond : (vs : List ℤ) (c : ℕ) → length vs ≤ c → slice_get vs c ≡ None
get_beyond [] c l = refl
get_beyond (v ∷ vs) zero l = absurd (omega (arith, l))
get_beyond (v ∷ vs) (suc c) l = get_beyond vs c (omega (arith, l))

total_beyond : (w c : ℕ) (rows : List Row) → AreWide w rows → w ≤ c → column_total c rows ≡ pos 0
total_beyond w c [] wide l = refl
total_beyond w c ((m, vs) ∷ rows) wide l =
    let so : length vs ≡ w = wide.0 in
    ap₂ (λ o z. amount_in o +ℤ z) (get_beyond vs c (omega (arith, l, so))) (total_beyond w c rows wide.1 l)

nothing_wrapped : int_wrap w64 (pos 0) ≡ pos 0
unfolding int_wrap
nothing_wrapped = refl

sums_full : (tables : Tables) (t w : ℕ) → AreWide w (rows_at tables t) → (c : ℕ) → sum_at tables t c ≡ total_at (sums_from tables t 0 w) c
sums_full tables t w wide c =
    elim (leb_tells w c) as (λ _. sum_at tables t c ≡ total_at (sums_from tables t 0 w) c) [
      | inl le ↦ ap (int_wrap w64) (total_beyond w c (rows_at tables t) wide le.1) ∙ nothing_wrapped ∙ sym (none_beyond tables t 0 w c le.1)
      | inr gt ↦ ap (sum_at tables t) (omega arith) ∙ sym (total_of tables t 0 w c gt.1)
    ]

-- what the tables have of a row is so
pub before_is : (tables : Tables) (t : ℕ) (row : ℤ) (w : ℕ) → AreWide w (rows_at tables t) → w ≡ length (columns_at tables t) → IsBefore tables (before_of tables t row w)
before_is tables t row w wide e = record {
  values_are = refl;
  limit_is = refl;
  sums_are = sums_full tables t w wide;
  wide = length_sums tables t 0 w ∙ e;
}

-- ---- how many cells there are

few_cond : (s : Bool) (x : Note) (xs : List Note) (n : ℕ) → length xs ≤ n → length (cond s xs (x ∷ xs)) ≤ suc n
few_cond true x xs n l = omega (arith, l)
few_cond false x xs n l = omega (arith, l)

few_cells : (t : ℕ) (row : ℤ) (d : ℕ) (vs : List ℤ) (other : Option (List ℤ)) → length (cells_only t row d vs other) ≤ length vs
few_cells t row d [] other = omega arith
few_cells t row d (v ∷ vs) other = few_cond (same_number (at_column other d) v) (Cell t row d v) (cells_only t row (suc d) vs other) (length vs) (few_cells t row (suc d) vs other)

few_of_row : (t : ℕ) (row : ℤ) (values other : Option (List ℤ)) (n : ℕ) → IfSome values (λ vs. length vs ≤ n) → length (row_only t row values other) ≤ n
few_of_row t row None other n l = omega arith
few_of_row t row (Some vs) other n l = (let few : length (cells_only t row 0 vs other) ≤ length vs = few_cells t row 0 vs other in omega (arith, few, l))

pub few_was : (t : ℕ) (row : ℤ) (o : Option (Bor (List ℤ))) (other : Option (List ℤ)) (notes : List Note) (n : ℕ) → notes ≡ row_only t row (option_map (λ vs. vs.now) o) other
    → IfSome o (λ vs. length vs.now ≤ n) → length notes ≤ n
few_was t row None other notes n put l = rw put (few_of_row t row None other n tt)
few_was t row (Some vs) other notes n put l = rw put (few_of_row t row (Some vs.now) other n l)

pub few_now : (t : ℕ) (row : ℤ) (w : ℕ) (rows : List Row) (r : ℤ) (values other : Option (List ℤ)) (notes : List Note) → notes ≡ row_only t row values other
    → values ≡ row_of rows r → AreWide w rows → length notes ≤ w
few_now t row w rows r values other notes put is wide = rw put (few_of_row t row values other w (at_most values is))
  where
    at_most : (o : Option (List ℤ)) → o ≡ row_of rows r → IfSome o (λ us. length us ≤ w)
    at_most None e = tt
    at_most (Some vs) e = (let so : length vs ≡ w = row_wide w rows r vs wide (sym e) in omega (arith, so))

-- ---- one column more: what is put for it and what is there of those behind it is what there was from it on

drop_first : (vs : List ℤ) (d : ℕ) → d < length vs → drop d vs ≡ total_at vs d ∷ drop (suc d) vs
drop_first [] d l = absurd (omega (arith, l))
drop_first (v ∷ vs) zero l = refl
drop_first (v ∷ vs) (suc d) l = drop_first vs d (omega (arith, l))

pub get_total : (vs : List ℤ) (d : ℕ) → get_or vs d (pos 0) ≡ total_at vs d
get_total [] d = refl
get_total (v ∷ vs) zero = refl
get_total (v ∷ vs) (suc d) = get_total vs d

joined : (s : Bool) (x : Note) (before rest : List Note) → (before ++ cond s [] (x ∷ [])) ++ rest ≡ before ++ cond s rest (x ∷ rest)
joined true x before rest = ap (λ xs. xs ++ rest) (append-nil before)
joined false x before rest = append_assoc before (x ∷ []) rest

pub cells_more : (t : ℕ) (row : ℤ) (d : ℕ) (v : ℤ) (vs : List ℤ) (other : Option (List ℤ)) (before after whole : List Note) → d < length vs → v ≡ total_at vs d
    → after ≡ before ++ cond (same_number (at_column other d) v) [] (Cell t row d v ∷ []) → before ++ cells_only t row d (drop d vs) other ≡ whole
    → after ++ cells_only t row (d + 1) (drop (d + 1) vs) other ≡ whole
cells_more t row d v vs other before after whole l is e h =
    ap₂ (λ xs c. xs ++ cells_only t row c (drop c vs) other) e (add-one d)
    ∙ joined (same_number (at_column other d) v) (Cell t row d v) before (cells_only t row (suc d) (drop (suc d) vs) other)
    ∙ ap (λ us. before ++ cells_only t row d us other) (ap (λ u. u ∷ drop (suc d) vs) is ∙ sym (drop_first vs d l))
    ∙ h

pub sums_only_more : (t d : ℕ) (v o : ℤ) (vs others : List ℤ) (before after whole : List Note) → d < length vs → v ≡ total_at vs d → o ≡ total_at others d
    → after ≡ before ++ cond (int_eq v o) [] (Sum t d v ∷ []) → before ++ sums_only t d (drop d vs) others ≡ whole
    → after ++ sums_only t (d + 1) (drop (d + 1) vs) others ≡ whole
sums_only_more t d v o vs others before after whole l is other e h =
    ap₂ (λ xs c. xs ++ sums_only t c (drop c vs) others) e (add-one d)
    ∙ joined (int_eq v o) (Sum t d v) before (sums_only t (suc d) (drop (suc d) vs) others)
    ∙ ap (λ u. before ++ cond (int_eq v u) (sums_only t (suc d) (drop (suc d) vs) others) (Sum t d v ∷ sums_only t (suc d) (drop (suc d) vs) others)) other
    ∙ ap (λ us. before ++ sums_only t d us others) (ap (λ u. u ∷ drop (suc d) vs) is ∙ sym (drop_first vs d l))
    ∙ h

-- behind the last column nothing is left
pub nothing_left : (tables : Tables) (t n c : ℕ) (vs : List ℤ) (before whole : List Note) → n ≤ c → before ++ sums_only t c (drop c (sums_from tables t 0 n)) vs ≡ whole → before ≡ whole
nothing_left tables t n c vs before whole l h =
    (let long : length (sums_from tables t 0 n) ≡ n = length_sums tables t 0 n in
    sym (append-nil before) ∙ ap (λ us. before ++ sums_only t c us vs) (sym (drop_of_length-le (sums_from tables t 0 n) {i = c} (omega (arith, l, long)))) ∙ h)
