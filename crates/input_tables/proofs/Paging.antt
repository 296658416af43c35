-- What pages hold of a table's rows, and what an edit of one page makes of all rows.
use Rattle.std.proofs.Common.{◌≡◌, ℕ, zero, suc, ℤ, pos, negsuc, List, [], ◌∷◌, ◌++◌, Option, Some, None, Bool, true, false, cond, refl, ap, sym, ◌∙◌, subst, arith, length, ◌≤◌, option_map, ◌+◌, ◌-◌, leb-true, FitsSigned}
use Rattle.std.proofs.lemmas.Int.{ints, wrapping_add_is, int_wrap_fits}
use Rattle.std.specs.Int.{w64, int_wrapping_add}
use Rattle.std.specs.List.{insert, remove}
use Rattle.std.specs.Prelude.{int_lt, slice_get, slice_set}
use Rattle.std.specs.Ordering.{int_eq}
use Rattle.meaning.specs.Tables.{row_of, above_all, is_there}
use Rattle.meaning.specs.Edits.{row_put, row_gone, in_range}
use Rattle.input_tables.specs.Rows.{Row}
use Rattle.input_tables.specs.Pages.{lower_count, AreOver, AreUnder, AreRising, page_of, Page, AreOn, HasRows, ArePages, all_of, put_entry, gone_entry, entry_of, IsOf, IsAbsent}
use Rattle.table_parts.specs.Ends.{last_or, last_of}
use Rattle.input_tables.proofs.Orders.{lt_self, lt_not, lower, same, higher, compared, over_more, entry_over, entry_there, entry_absent, put_over, put_new, gone_there, differ}

-- the rows of the page of a number
abbrev pub rows_in : Option (List Row) → List Row
rows_in None = []
rows_in (Some rows) = rows

abbrev pub rows_on : ℤ → List Page → List Row
rows_on k ps = rows_in (entry_of k ps)

-- ---- rows before and behind a number

pub row_of_over : (n : ℤ) (rows : List Row) → AreOver n rows → row_of rows n ≡ None
row_of_over n [] over = refl
row_of_over n (r ∷ rs) over = rw (lt_not n r.0 over.0, over.0) (row_of_over n rs over.1)

row_of_behind : (n : ℤ) (xs ys : List Row) → AreUnder n xs → row_of (xs ++ ys) n ≡ row_of ys n
row_of_behind n [] ys under = refl
row_of_behind n (x ∷ xs) ys under = rw under.0 (row_of_behind n xs ys under.1)

row_of_before : (n : ℤ) (xs ys : List Row) → AreOver n ys → row_of (xs ++ ys) n ≡ row_of xs n
row_of_before n [] ys over = row_of_over n ys over
row_of_before n (x ∷ xs) ys over = ap (cond (int_eq x.0 n) (Some x.1)) (row_of_before n xs ys over)

row_put_behind : (n : ℤ) (vs : List ℤ) (xs ys : List Row) → AreUnder n xs → row_put n vs (xs ++ ys) ≡ xs ++ row_put n vs ys
row_put_behind n vs [] ys under = refl
row_put_behind n vs (x ∷ xs) ys under = rw (under.0, lt_not x.0 n under.0) (ap (λ l. x ∷ l) (row_put_behind n vs xs ys under.1))

row_put_before : (n : ℤ) (vs : List ℤ) (xs ys : List Row) → AreOver n ys → row_put n vs (xs ++ ys) ≡ row_put n vs xs ++ ys
row_put_before n vs [] [] over = refl
row_put_before n vs [] (y ∷ ys) over = rw over.0 refl
row_put_before n vs (x ∷ xs) ys over = by (int_lt n x.0) (int_lt x.0 n) (row_put_before n vs xs ys over)
  where
    by : (s t : Bool) → row_put n vs (xs ++ ys) ≡ row_put n vs xs ++ ys
        → cond s ((n, vs) ∷ x ∷ (xs ++ ys)) (cond t (x ∷ row_put n vs (xs ++ ys)) ((n, vs) ∷ (xs ++ ys)))
        ≡ cond s ((n, vs) ∷ x ∷ xs) (cond t (x ∷ row_put n vs xs) ((n, vs) ∷ xs)) ++ ys
    by true t h = refl
    by false true h = ap (λ l. x ∷ l) h
    by false false h = refl

row_gone_over : (n : ℤ) (rows : List Row) → AreOver n rows → row_gone n rows ≡ rows
row_gone_over n [] over = refl
row_gone_over n (r ∷ rs) over = rw (lt_not n r.0 over.0, over.0) (ap (λ l. r ∷ l) (row_gone_over n rs over.1))

row_gone_behind : (n : ℤ) (xs ys : List Row) → AreUnder n xs → row_gone n (xs ++ ys) ≡ xs ++ row_gone n ys
row_gone_behind n [] ys under = refl
row_gone_behind n (x ∷ xs) ys under = rw under.0 (ap (λ l. x ∷ l) (row_gone_behind n xs ys under.1))

row_gone_before : (n : ℤ) (xs ys : List Row) → AreOver n ys → row_gone n (xs ++ ys) ≡ row_gone n xs ++ ys
row_gone_before n [] ys over = row_gone_over n ys over
row_gone_before n (x ∷ xs) ys over = by (int_eq x.0 n) (row_gone_before n xs ys over)
  where
    by : (b : Bool) → row_gone n (xs ++ ys) ≡ row_gone n xs ++ ys → cond b (xs ++ ys) (x ∷ row_gone n (xs ++ ys)) ≡ cond b xs (x ∷ row_gone n xs) ++ ys
    by true h = refl
    by false h = ap (λ l. x ∷ l) h

-- ---- a page's rows are all lower, or all greater, than those of another page

under_page : (m n : ℤ) → in_range m ≡ true → int_lt (page_of m) (page_of n) ≡ true → int_lt m n ≡ true
under_page (pos a) (pos b) here h = grind (arith, ints)
under_page (pos a) (negsuc b) here h = grind (arith, ints)
under_page (negsuc a) n here h = absurd cc

over_page : (m n : ℤ) → in_range m ≡ true → int_lt (page_of n) (page_of m) ≡ true → int_lt n m ≡ true
over_page (pos a) (pos b) here h = grind (arith, ints)
over_page (pos a) (negsuc b) here h = grind (arith, ints)
over_page (negsuc a) n here h = absurd cc

rows_under : (n k : ℤ) (rows : List Row) → AreOn k rows → int_lt k (page_of n) ≡ true → AreUnder n rows
rows_under n k [] on h = tt
rows_under n k (r ∷ rs) on h = (under_page r.0 n on.0 (subst (λ (j : ℤ). int_lt j (page_of n) ≡ true) (sym on.1) h), rows_under n k rs on.3 h)

rows_over : (n k : ℤ) (rows : List Row) → AreOn k rows → int_lt (page_of n) k ≡ true → AreOver n rows
rows_over n k [] on h = tt
rows_over n k (r ∷ rs) on h = (over_page r.0 n on.0 (subst (λ (j : ℤ). int_lt (page_of n) j ≡ true) (sym on.1) h), rows_over n k rs on.3 h)

over_both : (n : ℤ) (xs ys : List Row) → AreOver n xs → AreOver n ys → AreOver n (xs ++ ys)
over_both n [] ys left right = right
over_both n (x ∷ xs) ys left right = (left.0, over_both n xs ys left.1 right)

all_over : (n : ℤ) (ps : List Page) → ArePages ps → AreOver (page_of n) ps → AreOver n (all_of ps)
all_over n [] pages over = tt
all_over n (p ∷ ps) pages over = over_both n p.1 (all_of ps) (rows_over n p.0 p.1 pages.0 over.0) (all_over n ps pages.3 over.1)

rows_on_over : (k : ℤ) (ps : List Page) → AreOver k ps → rows_on k ps ≡ []
rows_on_over k ps over = ap rows_in (entry_over k ps over)

-- ---- all rows by the page of a number

pub row_on_page : (n : ℤ) (ps : List Page) → AreRising ps → ArePages ps → row_of (all_of ps) n ≡ row_of (rows_on (page_of n) ps) n
row_on_page n [] rising pages = refl
row_on_page n (p ∷ ps) rising pages = elim (compared p.0 (page_of n)) [
  | lower h ↦ rw h (row_of_behind n p.1 (all_of ps) (rows_under n p.0 p.1 pages.0 h) ∙ row_on_page n ps rising.1 pages.3)
  | same h ↦ (let over = all_over n ps pages.3 (subst (λ (k : ℤ). AreOver k ps) h rising.0) in
      rw (h, lt_self (page_of n)) (row_of_before n p.1 (all_of ps) over))
  | higher h ↦ (let over = over_more (page_of n) p.0 ps h rising.0 in
      let all = all_over n (p ∷ ps) pages (h, over) in
      rw (lt_not (page_of n) p.0 h, h, rows_on_over (page_of n) ps over) (row_of_over n (all_of (p ∷ ps)) all))
]

pub put_on_page : (n : ℤ) (vs : List ℤ) (ps : List Page) (more : List Row) → AreRising ps → ArePages ps
    → more ≡ row_put n vs (rows_on (page_of n) ps) → all_of (put_entry (page_of n) more ps) ≡ row_put n vs (all_of ps)
put_on_page n vs [] more rising pages is = ap (λ l. l ++ []) is
put_on_page n vs (p ∷ ps) more rising pages is = elim (compared p.0 (page_of n)) [
  | lower h ↦ (let there : more ≡ row_put n vs (rows_on (page_of n) ps) = rw h at is in
      rw (h, lt_not p.0 (page_of n) h)
      (ap (λ l. p.1 ++ l) (put_on_page n vs ps more rising.1 pages.3 there) ∙ sym (row_put_behind n vs p.1 (all_of ps) (rows_under n p.0 p.1 pages.0 h))))
  | same h ↦ (let over = all_over n ps pages.3 (subst (λ (k : ℤ). AreOver k ps) h rising.0) in
      let there : more ≡ row_put n vs p.1 = rw (h, lt_self (page_of n)) at is in
      rw (h, lt_self (page_of n)) (ap (λ l. l ++ all_of ps) there ∙ sym (row_put_before n vs p.1 (all_of ps) over)))
  | higher h ↦ (let over = over_more (page_of n) p.0 ps h rising.0 in
      let all = all_over n (p ∷ ps) pages (h, over) in
      let there : more ≡ row_put n vs [] = rw (lt_not (page_of n) p.0 h, h, rows_on_over (page_of n) ps over) at is in
      rw h (ap (λ l. l ++ all_of (p ∷ ps)) there ∙ sym (row_put_before n vs [] (all_of (p ∷ ps)) all)))
]

-- a page that keeps a row, or goes where none is left
pub gone_on_page : (n : ℤ) (ps : List Page) (less : List Row) (q : Page) → AreRising ps → ArePages ps
    → slice_get ps (lower_count (page_of n) ps) ≡ Some q → q.0 ≡ page_of n → less ≡ row_gone n q.1
    → all_of (put_entry (page_of n) less ps) ≡ row_gone n (all_of ps)
gone_on_page n [] less q rising pages at number is = absurd cc
gone_on_page n (p ∷ ps) less q rising pages at number is = elim (compared p.0 (page_of n)) [
  | lower h ↦ (let there : slice_get ps (lower_count (page_of n) ps) ≡ Some q = rw h at at in
      rw (h, lt_not p.0 (page_of n) h)
      (ap (λ l. p.1 ++ l) (gone_on_page n ps less q rising.1 pages.3 there number is) ∙ sym (row_gone_behind n p.1 (all_of ps) (rows_under n p.0 p.1 pages.0 h))))
  | same h ↦ (let over = all_over n ps pages.3 (subst (λ (k : ℤ). AreOver k ps) h rising.0) in
      let there : ◌≡◌ {A = Option Page} (Some (page_of n, p.1)) (Some q) = rw (h, lt_self (page_of n)) at at in
      let pair : ◌≡◌ {A = Page} (page_of n, p.1) q = cc in
      let rows : q.1 ≡ p.1 = sym (ap (λ d. d.1) pair) in
      rw (h, lt_self (page_of n)) (ap (λ l. l ++ all_of ps) (is ∙ ap (row_gone n) rows) ∙ sym (row_gone_before n p.1 (all_of ps) over)))
  | higher h ↦ (let there : ◌≡◌ {A = Option Page} (Some p) (Some q) = rw (lt_not (page_of n) p.0 h) at at in
      let one : p ≡ q = cc in
      absurd (differ (page_of n) p.0 h (ap (λ d. d.0) one ∙ number)))
]

-- a page without rows may as well not be there
pub none_left : (k : ℤ) (ps : List Page) → IsOf k (slice_get ps (lower_count k ps)) → all_of (gone_entry k ps) ≡ all_of (put_entry k [] ps)
none_left k [] is = absurd is
none_left k (p ∷ ps) is = elim (compared p.0 k) [
  | lower h ↦ (let there : IsOf k (slice_get ps (lower_count k ps)) = rw h at is in
      rw (h, lt_not p.0 k h) (ap (λ l. p.1 ++ l) (none_left k ps there)))
  | same h ↦ rw (h, lt_self k) refl
  | higher h ↦ (let there : p.0 ≡ k = rw (lt_not k p.0 h) at is in absurd (differ k p.0 h there))
]

pub row_gone_absent : (n : ℤ) (rows : List Row) → row_of rows n ≡ None → row_gone n rows ≡ rows
row_gone_absent n [] at = refl
row_gone_absent n (r ∷ rs) at = by (int_eq r.0 n) at (row_gone_absent n rs)
  where
    by : (b : Bool) → cond b (Some r.1) (row_of rs n) ≡ None → (row_of rs n ≡ None → row_gone n rs ≡ rs) → cond b rs (r ∷ row_gone n rs) ≡ r ∷ rs
    by true absent more = absurd cc
    by false absent more = ap (λ l. r ∷ l) (more absent)

-- ---- what a page's calls give

row_of-entry : (n : ℤ) (rows : List Row) → row_of rows n ≡ entry_of n rows
row_of-entry n [] = refl
row_of-entry n (r ∷ rs) = ap (cond (int_eq r.0 n) (Some r.1)) (row_of-entry n rs)

pub row_put-entry : (n : ℤ) (vs : List ℤ) (rows : List Row) → put_entry n vs rows ≡ row_put n vs rows
row_put-entry n vs [] = refl
row_put-entry n vs (r ∷ rs) = ap (λ l. cond (int_lt n r.0) ((n, vs) ∷ r ∷ rs) (cond (int_lt r.0 n) (r ∷ l) ((n, vs) ∷ rs))) (row_put-entry n vs rs)

pub row_gone-entry : (n : ℤ) (rows : List Row) → gone_entry n rows ≡ row_gone n rows
row_gone-entry n [] = refl
row_gone-entry n (r ∷ rs) = ap (λ l. cond (int_eq r.0 n) rs (r ∷ l)) (row_gone-entry n rs)

module _ (rows : List Row) (n : ℤ) (i : ℕ) (place : i ≡ lower_count n rows) where
  at_its_place : (P : Option Row → Type 0) → P (slice_get rows i) → P (slice_get rows (lower_count n rows))
  at_its_place P h = subst (λ (k : ℕ). P (slice_get rows k)) place h

  pub found_row : IsOf n (slice_get rows i) → (vs : List ℤ) → option_map (λ r. r.1) (slice_get rows i) ≡ Some vs → row_of rows n ≡ Some vs
  found_row is vs at = by (slice_get rows i) refl is at
    where
      by : (o : Option Row) → slice_get rows i ≡ o → IsOf n o → option_map (λ r. r.1) o ≡ Some vs → row_of rows n ≡ Some vs
      by None here is at = absurd is
      by (Some r) here is at = row_of-entry n rows ∙ entry_there n rows r (at_its_place (λ o. o ≡ Some r) here) is ∙ at

  pub there_row : IsOf n (slice_get rows i) → is_there (row_of rows n) ≡ true
  there_row is = by (slice_get rows i) refl is
    where
      by : (o : Option Row) → slice_get rows i ≡ o → IsOf n o → is_there (row_of rows n) ≡ true
      by None here is = absurd is
      by (Some r) here is = ap is_there (row_of-entry n rows ∙ entry_there n rows r (at_its_place (λ o. o ≡ Some r) here) is)

  pub missed_row : AreRising rows → IsAbsent n (slice_get rows i) → row_of rows n ≡ None
  missed_row rising absent = row_of-entry n rows ∙ entry_absent n rows rising (at_its_place (IsAbsent n) absent)

  pub put_found : (vs : List ℤ) → IsOf n (slice_get rows i) → slice_set rows i (n, vs) ≡ row_put n vs rows
  put_found vs is = ap (λ k. slice_set rows k (n, vs)) place ∙ put_over n vs rows (at_its_place (IsOf n) is) ∙ row_put-entry n vs rows

  pub put_missed : (vs : List ℤ) → IsAbsent n (slice_get rows i) → insert rows i (n, vs) ≡ row_put n vs rows
  put_missed vs absent = ap (λ k. insert rows k (n, vs)) place ∙ put_new n vs rows (at_its_place (IsAbsent n) absent) ∙ row_put-entry n vs rows

  pub gone_found : IsOf n (slice_get rows i) → remove rows i ≡ row_gone n rows
  gone_found is = ap (λ k. remove rows k) place ∙ gone_there n rows (at_its_place (IsOf n) is) ∙ row_gone-entry n rows

-- ---- the greatest number

number_of : (n : ℤ) → in_range n ≡ true → (k : ℕ) × (n ≡ pos k) × (k ≤ 2147483647)
number_of (pos k) h = (k, refl, leb-true k 2147483647 h)
number_of (negsuc k) h = absurd cc

next_number : (k : ℕ) → k ≤ 2147483647 → int_wrapping_add w64 (pos k) (pos 1) ≡ pos (k + 1)
next_number k h =
    let f : FitsSigned w64 (pos k) = omega (arith, ints) in
    let g : FitsSigned w64 (pos 1) = omega (arith, ints) in
    wrapping_add_is w64 (pos k) (pos 1) f g ∙ int_wrap_fits w64 (pos (k + 1)) (omega (arith, ints))

abbrev AreNumbered : List Row → Type 0
AreNumbered [] = Unit {0}
AreNumbered (r ∷ rs) = (in_range r.0 ≡ true) × AreNumbered rs

not_under : (m n : ℤ) → in_range m ≡ true → int_lt m n ≡ true → int_lt n (int_wrapping_add w64 m (pos 1)) ≡ false
not_under (pos k) n here h =
    let le : k ≤ 2147483647 = leb-true k 2147483647 here in
    rw (next_number k le) (grind (arith, ints))
not_under (negsuc k) n here h = absurd cc

above_last : (m : ℤ) (rows : List Row) → in_range m ≡ true → AreOver m rows → AreRising rows → AreNumbered rows
    → above_all (int_wrapping_add w64 m (pos 1)) rows ≡ int_wrapping_add w64 (last_or m rows) (pos 1)
above_last m [] here over rising numbered = refl
above_last m (r ∷ rs) here over rising numbered =
    rw (not_under m r.0 here over.0) (above_last r.0 rs numbered.0 rising.0 rising.1 numbered.1)

not_negative : (n : ℤ) → in_range n ≡ true → int_lt n (pos 0) ≡ false
not_negative (pos k) h = grind (arith, ints)
not_negative (negsuc k) h = absurd cc

above_rows : (rows : List Row) (n : ℤ) → AreRising rows → AreNumbered rows → last_of rows ≡ Some n → above_all (pos 0) rows ≡ int_wrapping_add w64 n (pos 1)
above_rows [] n rising numbered at = absurd cc
above_rows (r ∷ rs) n rising numbered at =
    let last : last_or r.0 rs ≡ n = cc in
    rw (not_negative r.0 numbered.0) (above_last r.0 rs numbered.0 rising.0 rising.1 numbered.1 ∙ ap (λ k. int_wrapping_add w64 k (pos 1)) last)

-- ---- all rows stand by rising numbers, and have numbers in range

numbered_both : (xs ys : List Row) → AreNumbered xs → AreNumbered ys → AreNumbered (xs ++ ys)
numbered_both [] ys left right = right
numbered_both (x ∷ xs) ys left right = (left.0, numbered_both xs ys left.1 right)

numbered_on : (k : ℤ) (rows : List Row) → AreOn k rows → AreNumbered rows
numbered_on k [] on = tt
numbered_on k (r ∷ rs) on = (on.0, numbered_on k rs on.3)

numbered_all : (ps : List Page) → ArePages ps → AreNumbered (all_of ps)
numbered_all [] pages = tt
numbered_all (p ∷ ps) pages = numbered_both p.1 (all_of ps) (numbered_on p.0 p.1 pages.0) (numbered_all ps pages.3)

page_over : (m k : ℤ) (ps : List Page) → page_of m ≡ k → ArePages ps → AreOver k ps → AreOver m (all_of ps)
page_over m k ps on pages over = all_over m ps pages (subst (λ (j : ℤ). AreOver j ps) (sym on) over)

rising_page : (k : ℤ) (rows : List Row) (ps : List Page) → AreOn k rows → AreRising rows → ArePages ps → AreOver k ps → AreRising (all_of ps) → AreRising (rows ++ all_of ps)
rising_page k [] ps on rising pages over more = more
rising_page k (r ∷ rs) ps on rising pages over more =
    (over_both r.0 rs (all_of ps) rising.0 (page_over r.0 k ps on.1 pages over), rising_page k rs ps on.3 rising.1 pages over more)

pub rising_all : (ps : List Page) → AreRising ps → ArePages ps → AreRising (all_of ps)
rising_all [] rising pages = tt
rising_all (p ∷ ps) rising pages = rising_page p.0 p.1 ps pages.0 pages.1 pages.3 rising.0 (rising_all ps rising.1 pages.3)

last_both : (m : ℤ) (xs ys : List Row) → last_or m (xs ++ ys) ≡ last_or (last_or m xs) ys
last_both m [] ys = refl
last_both m (x ∷ xs) ys = last_both x.0 xs ys

last_rows : (m n : ℤ) (rows : List Row) → last_of rows ≡ Some n → last_or m rows ≡ n
last_rows m n [] at = absurd cc
last_rows m n (r ∷ rs) at = cc

last_page : (m n : ℤ) (ps : List Page) (i : ℕ) (p : Page) → length ps ≡ suc i → slice_get ps i ≡ Some p → last_of p.1 ≡ Some n → last_or m (all_of ps) ≡ n
last_page m n [] i p long at last = absurd cc
last_page m n (q ∷ []) zero p long at last =
    let one : q ≡ p = cc in
    last_both m q.1 [] ∙ ap (λ (e : Page). last_or m e.1) one ∙ last_rows m n p.1 last
last_page m n (q ∷ []) (suc i) p long at last = absurd (omega (arith, long))
last_page m n (q ∷ r ∷ ps) zero p long at last = absurd (omega (arith, long))
last_page m n (q ∷ r ∷ ps) (suc i) p long at last =
    last_both m q.1 (all_of (r ∷ ps)) ∙ last_page (last_or m q.1) n (r ∷ ps) i p (omega (arith, long)) at last

last_of_all : (n : ℤ) (ps : List Page) (p : Page) → ArePages ps → slice_get ps (length ps - 1) ≡ Some p → last_of p.1 ≡ Some n → last_of (all_of ps) ≡ Some n
last_of_all n [] p pages at last = absurd cc
last_of_all n (q ∷ ps) p pages at last =
    let before : suc (length ps) - 1 ≡ length ps = omega arith in
    let end = last_page (pos 0) n (q ∷ ps) (length ps) p refl (subst (λ (k : ℕ). slice_get (q ∷ ps) k ≡ Some p) before at) last in
    first q.1 (all_of ps) pages.2 end
  where
    first : (xs ys : List Row) → HasRows xs → last_or (pos 0) (xs ++ ys) ≡ n → last_of (xs ++ ys) ≡ Some n
    first [] ys has is = absurd has
    first (x ∷ xs) ys has is = ap Some is

pub limit_all : (n : ℤ) (ps : List Page) (p : Page) → AreRising ps → ArePages ps → slice_get ps (length ps - 1) ≡ Some p → last_of p.1 ≡ Some n
    → above_all (pos 0) (all_of ps) ≡ int_wrapping_add w64 n (pos 1)
limit_all n ps p rising pages at last = above_rows (all_of ps) n (rising_all ps rising pages) (numbered_all ps pages) (last_of_all n ps p pages at last)

last_in_range : (m n : ℤ) (rows : List Row) → in_range m ≡ true → AreNumbered rows → last_or m rows ≡ n → in_range n ≡ true
last_in_range m n [] here numbered is = subst (λ (k : ℤ). in_range k ≡ true) is here
last_in_range m n (r ∷ rs) here numbered is = last_in_range r.0 n rs numbered.0 numbered.1 is

pub page_at : (ps : List Page) (i : ℕ) (p : Page) → ArePages ps → slice_get ps i ≡ Some p → AreOn p.0 p.1 × AreRising p.1 × HasRows p.1
page_at [] i p pages at = absurd cc
page_at (q ∷ ps) zero p pages at =
    let one : q ≡ p = cc in
    subst (λ (e : Page). AreOn e.0 e.1 × AreRising e.1 × HasRows e.1) one (pages.0, pages.1, pages.2)
page_at (q ∷ ps) (suc i) p pages at = page_at ps i p pages.3 at

pub last_fits : (n : ℤ) (ps : List Page) (i : ℕ) (p : Page) → ArePages ps → slice_get ps i ≡ Some p → last_of p.1 ≡ Some n → (k : ℕ) × (n ≡ pos k) × (k ≤ 2147483647)
last_fits n ps i p pages at last = number_of n (by p.1 (numbered_on p.0 p.1 (page_at ps i p pages at).0) last)
  where
    by : (rows : List Row) → AreNumbered rows → last_of rows ≡ Some n → in_range n ≡ true
    by [] numbered last = absurd cc
    by (r ∷ rs) numbered last = (let is : last_or r.0 rs ≡ n = cc in last_in_range r.0 n rs numbered.0 numbered.1 is)

pub page_has_last : (ps : List Page) (i : ℕ) (p : Page) → ArePages ps → slice_get ps i ≡ Some p → last_of p.1 ≡ None → ⊥
page_has_last ps i p pages at last = by p.1 (page_at ps i p pages at).2 last
  where
    by : (rows : List Row) → HasRows rows → last_of rows ≡ None → ⊥
    by [] has none = has
    by (r ∷ rs) has none = absurd cc
