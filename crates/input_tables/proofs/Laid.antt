-- Rows, and the two lists of a page in which they stand.
use Rattle.std.proofs.Common.{◌≡◌, ℕ, zero, suc, ℤ, List, [], ◌∷◌, ◌++◌, Some, None, Option, Bool, true, false, cond, refl, ap, sym, ◌∙◌, subst, arith, length, take, drop, ◌<◌, ◌≤◌, ◌+◌, ◌-◌, ◌*◌, option_map}
use Rattle.std.proofs.lemmas.List.{length-append, length-take-le, length-drop, take-append-drop, take_at, drop_at, append_assoc}
use Rattle.std.proofs.Math.Seq.{take-append-add, drop-append-add}
use Rattle.std.proofs.Math.Nat.{suc-mul, mul-le-mul_right}
use Rattle.std.specs.Prelude.{int_lt, slice_get, slice_set, is_some}
use Rattle.std.specs.List.{insert, remove}
use Rattle.std.specs.Ordering.{int_eq}
use Rattle.meaning.specs.Edits.{row_put, row_gone}
use Rattle.input_tables.specs.Rows.{Row, Numbered, rows_of, numbers_of, cells_of, AreWide}
use Rattle.input_tables.specs.Pages.{lower_count, AreOver, AreRising, HasRows, IsOf, IsAbsent, Page, all_of}
use Rattle.table_parts.specs.Ends.{last_or, last_of}

-- ---- lists that begin with the cells of a row

take_past : (xs ys : List ℤ) (m n : ℕ) → m ≡ length xs + n → take m (xs ++ ys) ≡ xs ++ take n ys
take_past xs ys m n is = ap (λ k. take k (xs ++ ys)) is ∙ take-append-add xs ys n

drop_past : (xs ys : List ℤ) (m n : ℕ) → m ≡ length xs + n → drop m (xs ++ ys) ≡ drop n ys
drop_past xs ys m n is = ap (λ k. drop k (xs ++ ys)) is ∙ drop-append-add xs ys n

no_length : (xs : List ℤ) → length xs ≡ 0 → [] ≡ xs
no_length [] none = refl
no_length (x ∷ xs) none = absurd (omega arith)

-- ---- how wide the rows of a page are

pub has_rows : (rows : List Row) (i : ℕ) → i < length rows → HasRows rows
has_rows [] i within = absurd (omega arith)
has_rows (r ∷ rs) i within = tt

some_there : (rows : List Row) (i : ℕ) → i < length rows → is_some (slice_get rows i) ≡ true
some_there [] i within = absurd (omega arith)
some_there (r ∷ rs) zero within = refl
some_there (r ∷ rs) (suc i) within = some_there rs i (omega arith)

same_width : (v w : ℕ) (rows : List Row) → HasRows rows → AreWide v rows → AreWide w rows → v ≡ w
same_width v w [] has some all = absurd has
same_width v w (r ∷ rs) has some all = sym some.0 ∙ all.0

module _ (w : ℕ) where
  none_wide : 0 * w ≡ 0
  none_wide = omega arith

  step : (i n : ℕ) → n ≡ w → suc i * w ≡ n + i * w
  step i n is =
      let s : suc i * w ≡ i * w + w = suc-mul i w in
      omega (arith, s)

  step_more : (i n : ℕ) → n ≡ w → suc i * w + w ≡ n + (i * w + w)
  step_more i n is =
      let s : suc i * w ≡ i * w + w = suc-mul i w in
      omega (arith, s)

  -- ---- the lists that rows give

  pub length_cells : (rows : List Row) → AreWide w rows → length (cells_of rows) ≡ length rows * w
  length_cells [] wide = sym none_wide
  length_cells (r ∷ rs) wide =
      length-append r.1 (cells_of rs) ∙ ap (λ k. length r.1 + k) (length_cells rs wide.1) ∙ sym (step (length rs) (length r.1) wide.0)

  pub length_numbers : (rows : List Row) → length (numbers_of rows) ≡ length rows
  length_numbers [] = refl
  length_numbers (r ∷ rs) = ap suc (length_numbers rs)

  rows_again : (rows : List Row) → AreWide w rows → rows_of w (numbers_of rows) (cells_of rows) ≡ rows
  rows_again [] wide = refl
  rows_again (r ∷ rs) wide =
      rw (take_at r.1 (cells_of rs) w wide.0, drop_at r.1 (cells_of rs) w wide.0) (ap (λ l. r ∷ l) (rows_again rs wide.1))

  pub laid : (rows : List Row) (es : List Numbered) (cs : List ℤ) → AreWide w rows → numbers_of rows ≡ es → cells_of rows ≡ cs → rows_of w es cs ≡ rows
  laid rows es cs wide numbers cells = ap (λ l. rows_of w l cs) (sym numbers) ∙ ap (rows_of w (numbers_of rows)) (sym cells) ∙ rows_again rows wide

  pub laid_length : (rows : List Row) (es : List Numbered) (cs : List ℤ) → AreWide w rows → numbers_of rows ≡ es → cells_of rows ≡ cs → length cs ≡ length es * w
  laid_length rows es cs wide numbers cells =
      ap length (sym cells) ∙ length_cells rows wide ∙ ap (λ k. k * w) (sym (length_numbers rows) ∙ ap length numbers)

  -- ---- the rows that lists give

  pub length_rows : (es : List Numbered) (cs : List ℤ) → length (rows_of w es cs) ≡ length es
  length_rows [] cs = refl
  length_rows (e ∷ es) cs = ap suc (length_rows es (drop w cs))

  pub numbers_again : (es : List Numbered) (cs : List ℤ) → numbers_of (rows_of w es cs) ≡ es
  numbers_again [] cs = refl
  numbers_again (e ∷ es) cs = ap (λ l. e ∷ l) (numbers_again es (drop w cs))

  first_row : (n : ℕ) (cs : List ℤ) → length cs ≡ suc n * w → w ≤ length cs
  first_row n cs long =
      let s : suc n * w ≡ w + n * w = step n w refl in
      omega (arith, s, long)

  rest_long : (n : ℕ) (cs : List ℤ) → length cs ≡ suc n * w → length (drop w cs) ≡ n * w
  rest_long n cs long =
      let s : suc n * w ≡ w + n * w = step n w refl in
      let d : length (drop w cs) ≡ length cs - w = length-drop w cs in
      omega (arith, s, d, long)

  pub cells_again : (es : List Numbered) (cs : List ℤ) → length cs ≡ length es * w → cells_of (rows_of w es cs) ≡ cs
  cells_again [] cs long = no_length cs (long ∙ none_wide)
  cells_again (e ∷ es) cs long = ap (λ l. take w cs ++ l) (cells_again es (drop w cs) (rest_long (length es) cs long)) ∙ take-append-drop w cs

  pub wide_again : (es : List Numbered) (cs : List ℤ) → length cs ≡ length es * w → AreWide w (rows_of w es cs)
  wide_again [] cs long = tt
  wide_again (e ∷ es) cs long = (length-take-le w cs (first_row (length es) cs long), wide_again es (drop w cs) (rest_long (length es) cs long))

  -- ---- the cells of a row, and what is left by a change of one row

  pub cells_at : (rows : List Row) (i : ℕ) (r : Row) → AreWide w rows → slice_get rows i ≡ Some r → take w (drop (i * w) (cells_of rows)) ≡ r.1
  cells_at [] i r wide at = absurd cc
  cells_at (x ∷ xs) zero r wide at =
      let one : x ≡ r = cc in
      rw none_wide (take_at x.1 (cells_of xs) w wide.0 ∙ ap (λ (y : Row). y.1) one)
  cells_at (x ∷ xs) (suc i) r wide at = rw (drop_past x.1 (cells_of xs) (suc i * w) (i * w) (step i (length x.1) wide.0)) (cells_at xs i r wide.1 at)

  cells_set : (rows : List Row) (i : ℕ) (n : ℤ) (vs : List ℤ) → AreWide w rows → i < length rows
      → cells_of (slice_set rows i (n, vs)) ≡ take (i * w) (cells_of rows) ++ (vs ++ drop (i * w + w) (cells_of rows))
  cells_set [] i n vs wide within = absurd (omega arith)
  cells_set (x ∷ xs) zero n vs wide within =
      let first : 0 * w + w ≡ w = omega arith in
      rw (first, none_wide, drop_at x.1 (cells_of xs) w wide.0) refl
  cells_set (x ∷ xs) (suc i) n vs wide within =
      rw (take_past x.1 (cells_of xs) (suc i * w) (i * w) (step i (length x.1) wide.0), drop_past x.1 (cells_of xs) (suc i * w + w) (i * w + w) (step_more i (length x.1) wide.0))
      (ap (λ l. x.1 ++ l) (cells_set xs i n vs wide.1 (omega arith)) ∙ sym (append_assoc x.1 (take (i * w) (cells_of xs)) (vs ++ drop (i * w + w) (cells_of xs))))

  cells_insert : (rows : List Row) (i : ℕ) (n : ℤ) (vs : List ℤ) → AreWide w rows → i ≤ length rows
      → cells_of (insert rows i (n, vs)) ≡ take (i * w) (cells_of rows) ++ (vs ++ drop (i * w) (cells_of rows))
  cells_insert rows zero n vs wide upto = rw none_wide refl
  cells_insert [] (suc i) n vs wide upto = absurd (omega arith)
  cells_insert (x ∷ xs) (suc i) n vs wide upto =
      rw (take_past x.1 (cells_of xs) (suc i * w) (i * w) (step i (length x.1) wide.0), drop_past x.1 (cells_of xs) (suc i * w) (i * w) (step i (length x.1) wide.0))
      (ap (λ l. x.1 ++ l) (cells_insert xs i n vs wide.1 (omega arith)) ∙ sym (append_assoc x.1 (take (i * w) (cells_of xs)) (vs ++ drop (i * w) (cells_of xs))))

  cells_remove : (rows : List Row) (i : ℕ) → AreWide w rows → i < length rows
      → cells_of (remove rows i) ≡ take (i * w) (cells_of rows) ++ drop (i * w + w) (cells_of rows)
  cells_remove [] i wide within = absurd (omega arith)
  cells_remove (x ∷ xs) zero wide within =
      let first : 0 * w + w ≡ w = omega arith in
      rw (first, none_wide, drop_at x.1 (cells_of xs) w wide.0) refl
  cells_remove (x ∷ xs) (suc i) wide within =
      rw (take_past x.1 (cells_of xs) (suc i * w) (i * w) (step i (length x.1) wide.0), drop_past x.1 (cells_of xs) (suc i * w + w) (i * w + w) (step_more i (length x.1) wide.0))
      (ap (λ l. x.1 ++ l) (cells_remove xs i wide.1 (omega arith)) ∙ sym (append_assoc x.1 (take (i * w) (cells_of xs)) (drop (i * w + w) (cells_of xs))))

  numbers_set : (rows : List Row) (i : ℕ) (n : ℤ) (vs : List ℤ) → IsOf n (slice_get rows i) → numbers_of (slice_set rows i (n, vs)) ≡ numbers_of rows
  numbers_set [] i n vs is = absurd is
  numbers_set (x ∷ xs) zero n vs is = ap (λ (k : ℤ). (k, tt) ∷ numbers_of xs) (sym is)
  numbers_set (x ∷ xs) (suc i) n vs is = ap (λ l. (x.0, tt) ∷ l) (numbers_set xs i n vs is)

  numbers_insert : (rows : List Row) (i : ℕ) (n : ℤ) (vs : List ℤ) → numbers_of (insert rows i (n, vs)) ≡ insert (numbers_of rows) i (n, tt)
  numbers_insert rows zero n vs = refl
  numbers_insert [] (suc i) n vs = refl
  numbers_insert (x ∷ xs) (suc i) n vs = ap (λ l. (x.0, tt) ∷ l) (numbers_insert xs i n vs)

  numbers_remove : (rows : List Row) (i : ℕ) → numbers_of (remove rows i) ≡ remove (numbers_of rows) i
  numbers_remove [] zero = refl
  numbers_remove [] (suc i) = refl
  numbers_remove (x ∷ xs) zero = refl
  numbers_remove (x ∷ xs) (suc i) = ap (λ l. (x.0, tt) ∷ l) (numbers_remove xs i)

  wide_set : (rows : List Row) (i : ℕ) (n : ℤ) (vs : List ℤ) → length vs ≡ w → AreWide w rows → AreWide w (slice_set rows i (n, vs))
  wide_set [] i n vs long wide = tt
  wide_set (x ∷ xs) zero n vs long wide = (long, wide.1)
  wide_set (x ∷ xs) (suc i) n vs long wide = (wide.0, wide_set xs i n vs long wide.1)

  wide_insert : (rows : List Row) (i : ℕ) (n : ℤ) (vs : List ℤ) → i ≤ length rows → length vs ≡ w → AreWide w rows → AreWide w (insert rows i (n, vs))
  wide_insert rows zero n vs upto long wide = (long, wide)
  wide_insert [] (suc i) n vs upto long wide = absurd (omega arith)
  wide_insert (x ∷ xs) (suc i) n vs upto long wide = (wide.0, wide_insert xs i n vs (omega arith) long wide.1)

  wide_remove : (rows : List Row) (i : ℕ) → AreWide w rows → AreWide w (remove rows i)
  wide_remove [] zero wide = tt
  wide_remove [] (suc i) wide = tt
  wide_remove (x ∷ xs) zero wide = wide.1
  wide_remove (x ∷ xs) (suc i) wide = (wide.0, wide_remove xs i wide.1)

  -- ---- what a page's lists are after a change of one row

  module _ (es : List Numbered) (cs : List ℤ) (long : length cs ≡ length es * w) where
    pub values_there : (i : ℕ) (r : Row) → slice_get (rows_of w es cs) i ≡ Some r → take w (drop (i * w) cs) ≡ r.1
    values_there i r at =
        subst (λ l. take w (drop (i * w) l) ≡ r.1) (cells_again es cs long) (cells_at (rows_of w es cs) i r (wide_again es cs long) at)

    pub get_within : (i : ℕ) → i < length (rows_of w es cs) → option_map (λ r. r.1) (slice_get (rows_of w es cs) i) ≡ Some (take w (drop (i * w) cs))
    get_within i within = by (slice_get (rows_of w es cs) i) refl (some_there (rows_of w es cs) i within)
      where
        by : (o : Option Row) → slice_get (rows_of w es cs) i ≡ o → is_some o ≡ true → option_map (λ r. r.1) o ≡ Some (take w (drop (i * w) cs))
        by None at some = absurd cc
        by (Some r) at some = ap Some (sym (values_there i r at))

    pub width_is : (v : ℕ) → HasRows (rows_of w es cs) → AreWide v (rows_of w es cs) → v ≡ w
    width_is v has wide = same_width v w (rows_of w es cs) has wide (wide_again es cs long)

    -- the cells of a row are within the list
    pub begin_within : (i : ℕ) → i ≤ length es → i * w ≤ length cs
    begin_within i upto =
        let le : i * w ≤ length es * w = mul-le-mul_right w upto in
        omega (arith, le, long)

    pub row_within : (i : ℕ) → i < length es → i * w + w ≤ length cs
    row_within i within =
        let next : suc i ≤ length es = omega (arith, within) in
        let le : suc i * w ≤ length es * w = mul-le-mul_right w next in
        let s : suc i * w ≡ i * w + w = suc-mul i w in
        omega (arith, le, s, long)

    in_rows : (i : ℕ) → i < length es → i < length (rows_of w es cs)
    in_rows i within = rw (length_rows es cs) within

    upto_rows : (i : ℕ) → i ≤ length es → i ≤ length (rows_of w es cs)
    upto_rows i upto = rw (length_rows es cs) upto

    module _ (i : ℕ) (n : ℤ) (vs : List ℤ) (many : length vs ≡ w) where
      set_numbers : IsOf n (slice_get (rows_of w es cs) i) → numbers_of (slice_set (rows_of w es cs) i (n, vs)) ≡ es
      set_numbers is = numbers_set (rows_of w es cs) i n vs is ∙ numbers_again es cs

      set_cells : i < length es → cells_of (slice_set (rows_of w es cs) i (n, vs)) ≡ take (i * w) cs ++ (vs ++ drop (i * w + w) cs)
      set_cells within =
          cells_set (rows_of w es cs) i n vs (wide_again es cs long) (in_rows i within) ∙ ap (λ l. take (i * w) l ++ (vs ++ drop (i * w + w) l)) (cells_again es cs long)

      set_wide : AreWide w (slice_set (rows_of w es cs) i (n, vs))
      set_wide = wide_set (rows_of w es cs) i n vs many (wide_again es cs long)

      pub set_laid : i < length es → IsOf n (slice_get (rows_of w es cs) i)
          → rows_of w es (take (i * w) cs ++ (vs ++ drop (i * w + w) cs)) ≡ slice_set (rows_of w es cs) i (n, vs)
      set_laid within is = laid (slice_set (rows_of w es cs) i (n, vs)) es _ set_wide (set_numbers is) (set_cells within)

      insert_numbers : numbers_of (insert (rows_of w es cs) i (n, vs)) ≡ insert es i (n, tt)
      insert_numbers = numbers_insert (rows_of w es cs) i n vs ∙ ap (λ l. insert l i (n, tt)) (numbers_again es cs)

      insert_cells : i ≤ length es → cells_of (insert (rows_of w es cs) i (n, vs)) ≡ take (i * w) cs ++ (vs ++ drop (i * w) cs)
      insert_cells upto =
          cells_insert (rows_of w es cs) i n vs (wide_again es cs long) (upto_rows i upto) ∙ ap (λ l. take (i * w) l ++ (vs ++ drop (i * w) l)) (cells_again es cs long)

      insert_wide : i ≤ length es → AreWide w (insert (rows_of w es cs) i (n, vs))
      insert_wide upto = wide_insert (rows_of w es cs) i n vs (upto_rows i upto) many (wide_again es cs long)

      pub insert_laid : i ≤ length es → rows_of w (insert es i (n, tt)) (take (i * w) cs ++ (vs ++ drop (i * w) cs)) ≡ insert (rows_of w es cs) i (n, vs)
      insert_laid upto = laid (insert (rows_of w es cs) i (n, vs)) _ _ (insert_wide upto) insert_numbers (insert_cells upto)

      pub insert_long : i ≤ length es → length (take (i * w) cs ++ (vs ++ drop (i * w) cs)) ≡ length (insert es i (n, tt)) * w
      insert_long upto = laid_length (insert (rows_of w es cs) i (n, vs)) _ _ (insert_wide upto) insert_numbers (insert_cells upto)

    pub set_long : (i : ℕ) (vs : List ℤ) → length vs ≡ w → i < length es → length (take (i * w) cs ++ (vs ++ drop (i * w + w) cs)) ≡ length es * w
    set_long i vs many within = by (slice_get (rows_of w es cs) i) refl (some_there (rows_of w es cs) i (in_rows i within))
      where
        by : (o : Option Row) → slice_get (rows_of w es cs) i ≡ o → is_some o ≡ true → length (take (i * w) cs ++ (vs ++ drop (i * w + w) cs)) ≡ length es * w
        by None at some = absurd cc
        by (Some r) at some =
            laid_length (slice_set (rows_of w es cs) i (r.0, vs)) es _ (set_wide i r.0 vs many) (set_numbers i r.0 vs many (subst (IsOf r.0) (sym at) refl)) (set_cells i r.0 vs many within)

    module _ (i : ℕ) (within : i < length es) where
      remove_numbers : numbers_of (remove (rows_of w es cs) i) ≡ remove es i
      remove_numbers = numbers_remove (rows_of w es cs) i ∙ ap (λ l. remove l i) (numbers_again es cs)

      remove_cells : cells_of (remove (rows_of w es cs) i) ≡ take (i * w) cs ++ drop (i * w + w) cs
      remove_cells =
          cells_remove (rows_of w es cs) i (wide_again es cs long) (in_rows i within) ∙ ap (λ l. take (i * w) l ++ drop (i * w + w) l) (cells_again es cs long)

      remove_wide : AreWide w (remove (rows_of w es cs) i)
      remove_wide = wide_remove (rows_of w es cs) i (wide_again es cs long)

      pub remove_laid : rows_of w (remove es i) (take (i * w) cs ++ drop (i * w + w) cs) ≡ remove (rows_of w es cs) i
      remove_laid = laid (remove (rows_of w es cs) i) _ _ remove_wide remove_numbers remove_cells

      pub remove_long : length (take (i * w) cs ++ drop (i * w + w) cs) ≡ length (remove es i) * w
      remove_long = laid_length (remove (rows_of w es cs) i) _ _ remove_wide remove_numbers remove_cells

-- a number that was put into a list, and goes again
pub remove_insert : (es : List Numbered) (i : ℕ) (e : Numbered) → i ≤ length es → remove (insert es i e) i ≡ es
remove_insert es zero e upto = refl
remove_insert [] (suc i) e upto = absurd (omega arith)
remove_insert (x ∷ xs) (suc i) e upto = ap (λ l. x ∷ l) (remove_insert xs i e (omega arith))

-- ---- the numbers of a page's rows

pub lower_count-numbers : (n : ℤ) (rows : List Row) → lower_count n (numbers_of rows) ≡ lower_count n rows
lower_count-numbers n [] = refl
lower_count-numbers n (r ∷ rs) = ap (λ i. cond (int_lt r.0 n) (suc i) 0) (lower_count-numbers n rs)

over_numbers : (n : ℤ) (rows : List Row) → AreOver n rows → AreOver n (numbers_of rows)
over_numbers n [] over = tt
over_numbers n (r ∷ rs) over = (over.0, over_numbers n rs over.1)

pub rising_numbers : (rows : List Row) → AreRising rows → AreRising (numbers_of rows)
rising_numbers [] rising = tt
rising_numbers (r ∷ rs) rising = (over_numbers r.0 rs rising.0, rising_numbers rs rising.1)

pub is_of-numbers : (n : ℤ) (rows : List Row) (i : ℕ) → IsOf n (slice_get (numbers_of rows) i) → IsOf n (slice_get rows i)
is_of-numbers n [] i is = is
is_of-numbers n (r ∷ rs) zero is = is
is_of-numbers n (r ∷ rs) (suc i) is = is_of-numbers n rs i is

pub absent-numbers : (n : ℤ) (rows : List Row) (i : ℕ) → IsAbsent n (slice_get (numbers_of rows) i) → IsAbsent n (slice_get rows i)
absent-numbers n [] i is = tt
absent-numbers n (r ∷ rs) zero is = is
absent-numbers n (r ∷ rs) (suc i) is = absent-numbers n rs i is

last_numbers_or : (n : ℤ) (rows : List Row) → last_or n (numbers_of rows) ≡ last_or n rows
last_numbers_or n [] = refl
last_numbers_or n (r ∷ rs) = last_numbers_or r.0 rs

pub last_numbers : (rows : List Row) → last_of (numbers_of rows) ≡ last_of rows
last_numbers [] = refl
last_numbers (r ∷ rs) = ap Some (last_numbers_or r.0 rs)

-- ---- the rows of a table stay as wide as they are

pub wide_put : (w : ℕ) (n : ℤ) (vs : List ℤ) (rows : List Row) → length vs ≡ w → AreWide w rows → AreWide w (row_put n vs rows)
wide_put w n vs [] many wide = (many, tt)
wide_put w n vs (r ∷ rs) many wide = by (int_lt n r.0) (int_lt r.0 n) (row_put n vs rs) (wide_put w n vs rs many wide.1)
  where
    by : (s t : Bool) (more : List Row) → AreWide w more → AreWide w (cond s ((n, vs) ∷ r ∷ rs) (cond t (r ∷ more) ((n, vs) ∷ rs)))
    by true t more left = (many, wide)
    by false true more left = (wide.0, left)
    by false false more left = (many, wide.1)

pub wide_gone : (w : ℕ) (n : ℤ) (rows : List Row) → AreWide w rows → AreWide w (row_gone n rows)
wide_gone w n [] wide = tt
wide_gone w n (r ∷ rs) wide = by (int_eq r.0 n) (row_gone n rs) (wide_gone w n rs wide.1)
  where
    by : (b : Bool) (less : List Row) → AreWide w less → AreWide w (cond b rs (r ∷ less))
    by true less left = wide.1
    by false less left = (wide.0, left)

wide_left : (w : ℕ) (xs ys : List Row) → AreWide w (xs ++ ys) → AreWide w xs
wide_left w [] ys wide = tt
wide_left w (x ∷ xs) ys wide = (wide.0, wide_left w xs ys wide.1)

wide_right : (w : ℕ) (xs ys : List Row) → AreWide w (xs ++ ys) → AreWide w ys
wide_right w [] ys wide = wide
wide_right w (x ∷ xs) ys wide = wide_right w xs ys wide.1

pub wide_page : (w : ℕ) (ps : List Page) (i : ℕ) (p : Page) → AreWide w (all_of ps) → slice_get ps i ≡ Some p → AreWide w p.1
wide_page w [] i p wide at = absurd cc
wide_page w (q ∷ ps) zero p wide at =
    let one : q ≡ p = cc in
    subst (λ (e : Page). AreWide w e.1) one (wide_left w q.1 (all_of ps) wide)
wide_page w (q ∷ ps) (suc i) p wide at = wide_page w ps i p (wide_right w q.1 (all_of ps) wide) at
