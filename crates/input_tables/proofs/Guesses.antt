-- A row that is looked for where it stands if none before it is missing.
use Rattle.std.proofs.Common.{◌≡◌, ℕ, ℤ, List, [], ◌∷◌, Option, Some, None, Bool, true, false, cond, refl, ap, sym, ◌∙◌, subst, arith, option_map}
use Rattle.std.proofs.lemmas.Int.{ints}
use Rattle.std.specs.Prelude.{slice_get}
use Rattle.std.specs.Ordering.{int_eq}
use Rattle.meaning.specs.Tables.{row_of}
use Rattle.input_tables.specs.Rows.{Row}
use Rattle.input_tables.specs.Pages.{lower_count, AreRising, page_of, Page, AreOn, ArePages, all_of, IsOf}
use Rattle.input_tables.proofs.Orders.{place_there}
use Rattle.input_tables.proofs.Paging.{found_row, page_at}
use Rattle.input_tables.proofs.PageEdits.{row_via_page}

-- a row that stands at a place is that of its number
pub row_here : (rows : List Row) (n : ℤ) (i : ℕ) → AreRising rows → IsOf n (slice_get rows i) → (vs : List ℤ) → option_map (λ r. r.1) (slice_get rows i) ≡ Some vs
    → row_of rows n ≡ Some vs
row_here rows n i rising is vs at = by (slice_get rows i) refl is
  where
    by : (o : Option Row) → slice_get rows i ≡ o → IsOf n o → row_of rows n ≡ Some vs
    by None here of = absurd of
    by (Some r) here of = found_row rows n i (sym (place_there n rows i r rising here of)) is vs at

same_number : (a b : ℤ) → int_eq a b ≡ true → a ≡ b
same_number a b h = grind (arith, ints)

-- the rows of a page have numbers of that page
on_its_page : (k n : ℤ) (rows : List Row) (vs : List ℤ) → AreOn k rows → row_of rows n ≡ Some vs → page_of n ≡ k
on_its_page k n [] vs on at = absurd cc
on_its_page k n (r ∷ rs) vs on at = by (int_eq r.0 n) refl at (on_its_page k n rs vs on.3)
  where
    by : (b : Bool) → int_eq r.0 n ≡ b → cond b (Some r.1) (row_of rs n) ≡ Some vs → (row_of rs n ≡ Some vs → page_of n ≡ k) → page_of n ≡ k
    by true same here more = ap page_of (sym (same_number r.0 n same)) ∙ on.1
    by false other here more = more here

-- a row of some page is that of its number among all
pub row_of_page : (ps : List Page) (n : ℤ) (i : ℕ) (q : Page) (vs : List ℤ) → AreRising ps → ArePages ps → slice_get ps i ≡ Some q → row_of q.1 n ≡ Some vs
    → row_of (all_of ps) n ≡ Some vs
row_of_page ps n i q vs rising pages at row =
    let number : q.0 ≡ page_of n = sym (on_its_page q.0 n q.1 vs (page_at ps i q pages at).0 row) in
    let place : lower_count (page_of n) ps ≡ i = place_there (page_of n) ps i q rising at number in
    let there : IsOf (page_of n) (slice_get ps i) = subst (IsOf (page_of n)) (sym at) number in
    sym (row_via_page ps (page_of n) n i refl rising pages (sym place) q at there) ∙ row

pub page_rises : (ps : List Page) (i : ℕ) (q : Page) → ArePages ps → slice_get ps i ≡ Some q → AreRising q.1
page_rises ps i q pages at = (page_at ps i q pages at).1
