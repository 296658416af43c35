-- The totals of a table's columns when a row is put or taken out.
use Rattle.std.proofs.Common.{replicate, ◌≡◌, ◌++◌, ℕ, zero, suc, ℤ, pos, ◌+ℤ◌, List, [], ◌∷◌, Option, Some, None, Bool, true, false, cond, refl, ap, sym, ◌∙◌, arith, length, take, w64}
use Rattle.std.proofs.lemmas.Int.{ints, int_wrap_fits, int_wrap-add_left}
use Rattle.std.specs.Int.{int_wrap}
use Rattle.std.specs.Prelude.{◌-ℤ◌, slice_get}
use Rattle.std.specs.Ordering.{int_eq}
use Rattle.meaning.specs.Tables.{row_of, at_column, amount_in, column_total}
use Rattle.meaning.specs.Edits.{row_put, row_gone}
use Rattle.input_tables.specs.Rows.{Row, AreWide}
use Rattle.input_tables.specs.Pages.{AreRising}
use Rattle.table_parts.specs.Sums.{added, taken}
use Rattle.input_tables.specs.Sums.{without_row, AreTotals}
use Rattle.input_tables.proofs.Orders.{lt_self, lt_not, over_more, lower, same, higher, compared}
use Rattle.input_tables.proofs.Paging.{row_of_over}

-- ---- column by column

abbrev amount : List ℤ → ℕ → ℤ
amount vs c = amount_in (slice_get vs c)

pub none_fits : pos 0 ≡ int_wrap w64 (pos 0)
none_fits = sym (int_wrap_fits w64 (pos 0) (omega (arith, ints)))

zeros : (n : ℕ) → AreTotals (replicate n (pos 0)) []
zeros zero c = none_fits
zeros (suc n) zero = none_fits
zeros (suc n) (suc c) = zeros n c

pub zeros_total : (n k : ℕ) (xs : List ℤ) → xs ≡ [] → AreTotals (take n xs ++ replicate k (pos 0)) []
zeros_total n k [] none = by n
  where
    by : (m : ℕ) → AreTotals (take m [] ++ replicate k (pos 0)) []
    by zero = zeros k
    by (suc m) = zeros k
zeros_total n k (x ∷ xs) none = absurd cc

-- what is taken off a total is taken off before it is wrapped
wrapped_less : (a b : ℤ) → int_wrap w64 (int_wrap w64 a -ℤ b) ≡ int_wrap w64 (a -ℤ b)
wrapped_less a b =
    let here : (x : ℤ) → x -ℤ b ≡ x +ℤ (pos 0 -ℤ b) = λ x. omega (arith, ints) in
    rw (here (int_wrap w64 a), here a) (int_wrap-add_left w64 a (pos 0 -ℤ b))

added_at : (ss vs : List ℤ) (c : ℕ) → length vs ≡ length ss → amount (added ss vs) c ≡ int_wrap w64 (amount ss c +ℤ amount vs c)
added_at [] [] c many = none_fits
added_at [] (v ∷ vs) c many = absurd cc
added_at (s ∷ ss) [] c many = absurd cc
added_at (s ∷ ss) (v ∷ vs) zero many = refl
added_at (s ∷ ss) (v ∷ vs) (suc c) many = added_at ss vs c (omega (arith, many))

taken_at : (ss vs : List ℤ) (c : ℕ) → length vs ≡ length ss → amount (taken ss vs) c ≡ int_wrap w64 (amount ss c -ℤ amount vs c)
taken_at [] [] c many = none_fits
taken_at [] (v ∷ vs) c many = absurd cc
taken_at (s ∷ ss) [] c many = absurd cc
taken_at (s ∷ ss) (v ∷ vs) zero many = refl
taken_at (s ∷ ss) (v ∷ vs) (suc c) many = taken_at ss vs c (omega (arith, many))

added_many : (ss vs : List ℤ) → length (added ss vs) ≡ length ss
added_many ss [] = refl
added_many [] (v ∷ vs) = refl
added_many (s ∷ ss) (v ∷ vs) = ap suc (added_many ss vs)

taken_many : (ss vs : List ℤ) → length (taken ss vs) ≡ length ss
taken_many ss [] = refl
taken_many [] (v ∷ vs) = refl
taken_many (s ∷ ss) (v ∷ vs) = ap suc (taken_many ss vs)

-- ---- the totals before they are wrapped

-- what a row holds in a column, or 0 where it isn't there
abbrev held : ℕ → Option (List ℤ) → ℤ
held c row = amount_in (at_column row c)

total_put : (c : ℕ) (n : ℤ) (vs : List ℤ) (rows : List Row) → AreRising rows
    → column_total c (row_put n vs rows) ≡ (column_total c rows -ℤ held c (row_of rows n)) +ℤ amount vs c
total_put c n vs [] rising = omega (arith, ints)
total_put c n vs (r ∷ rs) rising = elim (compared n r.0) [
  | lower h ↦ (let absent : row_of (r ∷ rs) n ≡ None = row_of_over n (r ∷ rs) (h, over_more n r.0 rs h rising.0) in
      rw (absent, h) (omega (arith, ints)))
  | same h ↦ rw (h, lt_self r.0) (omega (arith, ints))
  | higher h ↦ (let more = total_put c n vs rs rising.1 in
      rw (h, lt_not r.0 n h) (omega (arith, ints, more)))
]

total_gone : (c : ℕ) (n : ℤ) (rows : List Row) → column_total c (row_gone n rows) ≡ column_total c rows -ℤ held c (row_of rows n)
total_gone c n [] = omega (arith, ints)
total_gone c n (r ∷ rs) = by (int_eq r.0 n) (total_gone c n rs)
  where
    by : (b : Bool) → column_total c (row_gone n rs) ≡ column_total c rs -ℤ held c (row_of rs n)
        → column_total c (cond b rs (r ∷ row_gone n rs)) ≡ column_total c (r ∷ rs) -ℤ held c (cond b (Some r.1) (row_of rs n))
    by true less = omega (arith, ints)
    by false less = omega (arith, ints, less)

-- ---- the totals

-- a row that is there is as wide as all
abbrev IsWide : ℕ → Option (List ℤ) → Type 0
IsWide w None = Unit {0}
IsWide w (Some vs) = length vs ≡ w

wide_row : (w : ℕ) (rows : List Row) (n : ℤ) → AreWide w rows → IsWide w (row_of rows n)
wide_row w [] n wide = tt
wide_row w (r ∷ rs) n wide = by (int_eq r.0 n) (row_of rs n) (wide_row w rs n wide.1)
  where
    by : (b : Bool) (o : Option (List ℤ)) → IsWide w o → IsWide w (cond b (Some r.1) o)
    by true o rest = wide.0
    by false o rest = rest

without_many : (row : Option (List ℤ)) (ss : List ℤ) → length (without_row row ss) ≡ length ss
without_many None ss = refl
without_many (Some vs) ss = taken_many ss vs

without_at : (row : Option (List ℤ)) (ss : List ℤ) (c : ℕ) (total : ℤ) → IsWide (length ss) row → amount ss c ≡ int_wrap w64 total
    → amount (without_row row ss) c ≡ int_wrap w64 (total -ℤ held c row)
without_at None ss c total wide is =
    let less : total -ℤ pos 0 ≡ total = omega (arith, ints) in
    rw less is
without_at (Some vs) ss c total wide is = taken_at ss vs c wide ∙ ap (λ z. int_wrap w64 (z -ℤ amount vs c)) is ∙ wrapped_less total (amount vs c)

pub many_put : (n : ℤ) (vs ss : List ℤ) (rows : List Row) → length (added (without_row (row_of rows n) ss) vs) ≡ length ss
many_put n vs ss rows = added_many (without_row (row_of rows n) ss) vs ∙ without_many (row_of rows n) ss

pub many_gone : (n : ℤ) (ss : List ℤ) (rows : List Row) → length (without_row (row_of rows n) ss) ≡ length ss
many_gone n ss rows = without_many (row_of rows n) ss

pub totals_put : (n : ℤ) (vs ss : List ℤ) (rows : List Row) → AreRising rows → length vs ≡ length ss → AreWide (length ss) rows → AreTotals ss rows
    → AreTotals (added (without_row (row_of rows n) ss) vs) (row_put n vs rows)
totals_put n vs ss rows rising many wide totals c =
    let old = row_of rows n in
    added_at (without_row old ss) vs c (many ∙ sym (without_many old ss))
    ∙ ap (λ z. int_wrap w64 (z +ℤ amount vs c)) (without_at old ss c (column_total c rows) (wide_row (length ss) rows n wide) (totals c))
    ∙ int_wrap-add_left w64 (column_total c rows -ℤ held c old) (amount vs c)
    ∙ ap (int_wrap w64) (sym (total_put c n vs rows rising))

pub totals_gone : (n : ℤ) (ss : List ℤ) (rows : List Row) → AreWide (length ss) rows → AreTotals ss rows
    → AreTotals (without_row (row_of rows n) ss) (row_gone n rows)
totals_gone n ss rows wide totals c =
    let old = row_of rows n in
    without_at old ss c (column_total c rows) (wide_row (length ss) rows n wide) (totals c) ∙ ap (int_wrap w64) (sym (total_gone c n rows))
