-- What the calls of one page give of all rows, and what they keep.
use Rattle.std.proofs.Common.{◌≡◌, ℕ, zero, suc, ℤ, List, [], ◌∷◌, ◌++◌, Some, None, Bool, true, false, cond, refl, ap, sym, ◌∙◌, subst}
use Rattle.std.specs.Prelude.{int_lt, slice_get, slice_set, Result, Ok, Err, OnOk, OnErr, is_ok, is_err, is_some}
use Rattle.std.specs.List.{insert, remove}
use Rattle.std.specs.Ordering.{int_eq}
use Rattle.meaning.specs.Tables.{row_of, at_column}
use Rattle.meaning.specs.Edits.{row_put, row_gone, in_range}
use Rattle.monoid_laws.specs.Kinds.{Fits}
use Rattle.input_tables.specs.Edited.{RowsFit}
use Rattle.input_tables.specs.Rows.{Row, AreCells}
use Rattle.input_tables.specs.Pages.{lower_count, AreRising, page_of, Page, AreOn, HasRows, ArePages, all_of, put_entry, gone_entry, IsOf, IsAbsent}
use Rattle.table_parts.specs.Ends.{last_of}
use Rattle.input_tables.proofs.Orders.{entry_there, entry_absent, put_over, put_new, gone_there, rising_put, rising_gone}
use Rattle.input_tables.proofs.Paging.{rows_in, rows_on, row_on_page, put_on_page, gone_on_page, none_left, page_at, row_gone_absent, row_put-entry, row_gone-entry}

-- ---- what one page keeps

abbrev pub IsPage : ℤ → List Row → Type 0
IsPage k rows = AreOn k rows × AreRising rows × HasRows rows

on_put : (k n : ℤ) (vs : List ℤ) (rows : List Row) → in_range n ≡ true → page_of n ≡ k → AreCells vs → AreOn k rows → AreOn k (row_put n vs rows)
on_put k n vs [] here is cells on = (here, is, cells, tt)
on_put k n vs (r ∷ rs) here is cells on = by (int_lt n r.0) (int_lt r.0 n) (row_put n vs rs) (on_put k n vs rs here is cells on.3)
  where
    by : (s t : Bool) (more : List Row) → AreOn k more → AreOn k (cond s ((n, vs) ∷ r ∷ rs) (cond t (r ∷ more) ((n, vs) ∷ rs)))
    by true t more left = (here, is, cells, on)
    by false true more left = (on.0, on.1, on.2, left)
    by false false more left = (here, is, cells, on.3)

on_gone : (k n : ℤ) (rows : List Row) → AreOn k rows → AreOn k (row_gone n rows)
on_gone k n [] on = tt
on_gone k n (r ∷ rs) on = by (int_eq r.0 n) (row_gone n rs) (on_gone k n rs on.3)
  where
    by : (b : Bool) (less : List Row) → AreOn k less → AreOn k (cond b rs (r ∷ less))
    by true less left = on.3
    by false less left = (on.0, on.1, on.2, left)

has_put : (n : ℤ) (vs : List ℤ) (rows : List Row) → HasRows (row_put n vs rows)
has_put n vs [] = tt
has_put n vs (r ∷ rs) = by (int_lt n r.0) (int_lt r.0 n)
  where
    by : (s t : Bool) → HasRows (cond s ((n, vs) ∷ r ∷ rs) (cond t (r ∷ row_put n vs rs) ((n, vs) ∷ rs)))
    by true t = tt
    by false true = tt
    by false false = tt

page_put : (k n : ℤ) (vs : List ℤ) (rows : List Row) → in_range n ≡ true → page_of n ≡ k → AreCells vs → IsPage k rows → IsPage k (row_put n vs rows)
page_put k n vs rows here is cells page =
    (on_put k n vs rows here is cells page.0, subst AreRising (row_put-entry n vs rows) (rising_put n vs rows page.1), has_put n vs rows)

-- ---- what all pages keep

pages_put : (k : ℤ) (rows : List Row) (ps : List Page) → IsPage k rows → ArePages ps → ArePages (put_entry k rows ps)
pages_put k rows [] page pages = (page.0, page.1, page.2, tt)
pages_put k rows (p ∷ ps) page pages = by (int_lt k p.0) (int_lt p.0 k) (put_entry k rows ps) (pages_put k rows ps page pages.3)
  where
    by : (s t : Bool) (more : List Page) → ArePages more → ArePages (cond s ((k, rows) ∷ p ∷ ps) (cond t (p ∷ more) ((k, rows) ∷ ps)))
    by true t more left = (page.0, page.1, page.2, pages)
    by false true more left = (pages.0, pages.1, pages.2, left)
    by false false more left = (page.0, page.1, page.2, pages.3)

pages_gone : (k : ℤ) (ps : List Page) → ArePages ps → ArePages (gone_entry k ps)
pages_gone k [] pages = tt
pages_gone k (p ∷ ps) pages = by (int_eq p.0 k) (gone_entry k ps) (pages_gone k ps pages.3)
  where
    by : (b : Bool) (less : List Page) → ArePages less → ArePages (cond b ps (p ∷ less))
    by true less left = pages.3
    by false less left = (pages.0, pages.1, pages.2, left)

-- ---- a page that was found by its number, and one that wasn't

module _ (ps : List Page) (m n : ℤ) (i : ℕ) (number : m ≡ page_of n) (rising : AreRising ps) (pages : ArePages ps) (place : i ≡ lower_count m ps) where
  at_place : (q : Page) → slice_get ps i ≡ Some q → slice_get ps (lower_count (page_of n) ps) ≡ Some q
  at_place q at = subst (λ (k : ℕ). slice_get ps k ≡ Some q) (place ∙ ap (λ k. lower_count k ps) number) at

  of_page : IsOf m (slice_get ps i) → IsOf (page_of n) (slice_get ps (lower_count (page_of n) ps))
  of_page is = subst (λ (k : ℤ). IsOf k (slice_get ps (lower_count k ps))) number (subst (λ (k : ℕ). IsOf m (slice_get ps k)) place is)

  not_page : IsAbsent m (slice_get ps i) → IsAbsent (page_of n) (slice_get ps (lower_count (page_of n) ps))
  not_page is = subst (λ (k : ℤ). IsAbsent k (slice_get ps (lower_count k ps))) number (subst (λ (k : ℕ). IsAbsent m (slice_get ps k)) place is)

  key_of : (q : Page) → slice_get ps i ≡ Some q → IsOf m (slice_get ps i) → q.0 ≡ page_of n
  key_of q at is = rw at at is ∙ number

  rows_there : (q : Page) → slice_get ps i ≡ Some q → IsOf m (slice_get ps i) → rows_on (page_of n) ps ≡ q.1
  rows_there q at is = ap rows_in (entry_there (page_of n) ps q (at_place q at) (key_of q at is))

  rows_absent : IsAbsent m (slice_get ps i) → rows_on (page_of n) ps ≡ []
  rows_absent is = ap rows_in (entry_absent (page_of n) ps rising (not_page is))

  pub row_via_page : (q : Page) → slice_get ps i ≡ Some q → IsOf m (slice_get ps i) → row_of q.1 n ≡ row_of (all_of ps) n
  row_via_page q at is = sym (row_on_page n ps rising pages ∙ ap (λ rows. row_of rows n) (rows_there q at is))

  pub row_off_pages : IsAbsent m (slice_get ps i) → row_of (all_of ps) n ≡ None
  row_off_pages is = row_on_page n ps rising pages ∙ ap (λ rows. row_of rows n) (rows_absent is)

  pub none_off_pages : IsAbsent m (slice_get ps i) → row_gone n (all_of ps) ≡ all_of ps
  none_off_pages is = row_gone_absent n (all_of ps) (row_off_pages is)

  set_page : (q : Page) (rows : List Row) → slice_get ps i ≡ Some q → IsOf m (slice_get ps i) → slice_set ps i (q.0, rows) ≡ put_entry (page_of n) rows ps
  set_page q rows at is =
      ap (λ (k : ℤ). slice_set ps i (k, rows)) (key_of q at is) ∙ ap (λ k. slice_set ps k (page_of n, rows)) (place ∙ ap (λ k. lower_count k ps) number)
      ∙ put_over (page_of n) rows ps (of_page is)

  add_page : (rows : List Row) → IsAbsent m (slice_get ps i) → insert ps i (m, rows) ≡ put_entry (page_of n) rows ps
  add_page rows is =
      ap (λ (k : ℤ). insert ps i (k, rows)) number ∙ ap (λ k. insert ps k (page_of n, rows)) (place ∙ ap (λ k. lower_count k ps) number)
      ∙ put_new (page_of n) rows ps (not_page is)

  pub put_page : (q : Page) (vs : List ℤ) (rows : List Row) → slice_get ps i ≡ Some q → IsOf m (slice_get ps i) → rows ≡ row_put n vs q.1
      → all_of (slice_set ps i (q.0, rows)) ≡ row_put n vs (all_of ps)
  put_page q vs rows at is new =
      ap all_of (set_page q rows at is) ∙ put_on_page n vs ps rows rising pages (new ∙ ap (row_put n vs) (sym (rows_there q at is)))

  pub new_page : (vs : List ℤ) (rows : List Row) → IsAbsent m (slice_get ps i) → rows ≡ (n, vs) ∷ [] → all_of (insert ps i (m, rows)) ≡ row_put n vs (all_of ps)
  new_page vs rows is new =
      ap all_of (add_page rows is) ∙ put_on_page n vs ps rows rising pages (new ∙ ap (row_put n vs) (sym (rows_absent is)))

  pub gone_page : (q : Page) (rows : List Row) → slice_get ps i ≡ Some q → IsOf m (slice_get ps i) → rows ≡ row_gone n q.1
      → all_of (slice_set ps i (q.0, rows)) ≡ row_gone n (all_of ps)
  gone_page q rows at is new =
      ap all_of (set_page q rows at is) ∙ gone_on_page n ps rows q rising pages (at_place q at) (key_of q at is) new

  remove_set : (xs : List Page) (j : ℕ) (x : Page) → remove (slice_set xs j x) j ≡ remove xs j
  remove_set [] j x = refl
  remove_set (y ∷ xs) zero x = refl
  remove_set (y ∷ xs) (suc j) x = ap (λ l. y ∷ l) (remove_set xs j x)

  no_rows : (rows : List Row) → is_some (last_of rows) ≡ false → rows ≡ []
  no_rows [] last = refl
  no_rows (r ∷ rs) last = absurd cc

  less_page : (x : Page) → IsOf m (slice_get ps i) → remove (slice_set ps i x) i ≡ gone_entry (page_of n) ps
  less_page x is = remove_set ps i x ∙ ap (remove ps) (place ∙ ap (λ k. lower_count k ps) number) ∙ gone_there (page_of n) ps (of_page is)

  pub empty_page : (q : Page) (rows : List Row) → slice_get ps i ≡ Some q → IsOf m (slice_get ps i) → rows ≡ row_gone n q.1 → is_some (last_of rows) ≡ false
      → all_of (remove (slice_set ps i (q.0, rows)) i) ≡ row_gone n (all_of ps)
  empty_page q rows at is new last =
      ap all_of (less_page (q.0, rows) is) ∙ none_left (page_of n) ps (of_page is)
      ∙ gone_on_page n ps [] q rising pages (at_place q at) (key_of q at is) (sym (no_rows rows last) ∙ new)

  -- what stays of the invariant
  pub rising_of : (q : Page) → slice_get ps i ≡ Some q → AreRising q.1
  rising_of q at = (page_at ps i q pages at).1

  pub has_of : (q : Page) → slice_get ps i ≡ Some q → HasRows q.1
  has_of q at = (page_at ps i q pages at).2

  old_page : (q : Page) → slice_get ps i ≡ Some q → IsOf m (slice_get ps i) → IsPage (page_of n) q.1
  old_page q at is = subst (λ (k : ℤ). IsPage k q.1) (key_of q at is) (page_at ps i q pages at)

  keep_page : (q : Page) (rows : List Row) → slice_get ps i ≡ Some q → IsOf m (slice_get ps i) → IsPage (page_of n) rows
      → AreRising (slice_set ps i (q.0, rows)) × ArePages (slice_set ps i (q.0, rows))
  keep_page q rows at is page =
      subst (λ (l : List Page). AreRising l × ArePages l) (sym (set_page q rows at is)) (rising_put (page_of n) rows ps rising, pages_put (page_of n) rows ps page pages)

  pub keep_put : {A B : Type 0} (r : Result A B) (q : Page) (vs : List ℤ) (rows : List Row) → slice_get ps i ≡ Some q → IsOf m (slice_get ps i)
      → in_range n ≡ true → AreCells vs → OnOk r (rows ≡ row_put n vs q.1) → OnErr r (rows ≡ q.1)
      → AreRising (slice_set ps i (q.0, rows)) × ArePages (slice_set ps i (q.0, rows))
  keep_put (Ok a) q vs rows at is here cells put kept =
      keep_page q rows at is (subst (IsPage (page_of n)) (sym put) (page_put (page_of n) n vs q.1 here refl cells (old_page q at is)))
  keep_put (Err b) q vs rows at is here cells put kept = keep_page q rows at is (subst (IsPage (page_of n)) (sym kept) (old_page q at is))

  pub keep_new : {A B : Type 0} (r : Result A B) (vs : List ℤ) (rows : List Row) (new : List Page) → IsAbsent m (slice_get ps i) → in_range n ≡ true → AreCells vs
      → rows ≡ (n, vs) ∷ [] → new ≡ cond (is_ok r) (insert ps i (m, rows)) ps → AreRising new × ArePages new
  keep_new (Ok a) vs rows new is here cells one put =
      let page : IsPage (page_of n) ((n, vs) ∷ []) = ((here, refl, cells, tt), (tt, tt), tt) in
      subst (λ (l : List Page). AreRising l × ArePages l) (sym (put ∙ add_page rows is))
      (rising_put (page_of n) rows ps rising, pages_put (page_of n) rows ps (subst (IsPage (page_of n)) (sym one) page) pages)
  keep_new (Err b) vs rows new is here cells one put = subst (λ (l : List Page). AreRising l × ArePages l) (sym put) (rising, pages)

  has_some : (rows : List Row) → is_some (last_of rows) ≡ true → HasRows rows
  has_some [] last = absurd cc
  has_some (r ∷ rs) last = tt

  pub keep_gone : (q : Page) (rows : List Row) → slice_get ps i ≡ Some q → IsOf m (slice_get ps i) → rows ≡ row_gone n q.1 → is_some (last_of rows) ≡ true
      → AreRising (slice_set ps i (q.0, rows)) × ArePages (slice_set ps i (q.0, rows))
  keep_gone q rows at is new last =
      let page = old_page q at is in
      keep_page q rows at is (
        subst (AreOn (page_of n)) (sym new) (on_gone (page_of n) n q.1 page.0),
        subst AreRising (row_gone-entry n q.1 ∙ sym new) (rising_gone n q.1 page.1),
        has_some rows last,
      )

  pub keep_less : (x : Page) → IsOf m (slice_get ps i) → AreRising (remove (slice_set ps i x) i) × ArePages (remove (slice_set ps i x) i)
  keep_less x is =
      subst (λ (l : List Page). AreRising l × ArePages l) (sym (less_page x is)) (rising_gone (page_of n) ps rising, pages_gone (page_of n) ps pages)

-- what an insert that wasn't refused leaves
pub inserted : {A B : Type 0} {X : Type 0} (r : Result A B) (b : Bool) (new x y : X) → b ≡ is_err r → b ≡ false → new ≡ cond (is_ok r) x y → new ≡ x
inserted (Ok a) b new x y is not put = put
inserted (Err e) b new x y is not put = absurd cc

-- what a call says that was refused, and one that wasn't
pub refused : {A B : Type 0} {P : Type 0} (r : Result A B) (b : Bool) → b ≡ is_err r → b ≡ true → OnErr r P → P
refused (Ok a) b is not p = absurd cc
refused (Err e) b is not p = p

pub accepted : {A B : Type 0} {P : Type 0} (r : Result A B) (b : Bool) → b ≡ is_err r → b ≡ false → OnOk r P → P
accepted (Ok a) b is not p = p
accepted (Err e) b is not p = absurd cc

pub on_ok : {A B : Type 0} {P Q : Type 0} (r : Result A B) → OnOk r P → (P → Q) → OnOk r Q
on_ok (Ok a) p f = f p
on_ok (Err b) p f = tt

-- ---- each cell is a number of 64 bits

cells_at : (vs : List ℤ) (i : ℕ) (v : ℤ) → AreCells vs → slice_get vs i ≡ Some v → Fits v
cells_at [] i v all at = absurd cc
cells_at (w ∷ vs) zero v all at =
    let same : w ≡ v = cc in
    subst Fits same all.0
cells_at (w ∷ vs) (suc i) v all at = cells_at vs i v all.1 at

abbrev HaveCells : List Row → Type 0
HaveCells [] = Unit {0}
HaveCells (r ∷ rs) = AreCells r.1 × HaveCells rs

fits_in : (rows : List Row) → HaveCells rows → (row : ℤ) (column : ℕ) (v : ℤ) → at_column (row_of rows row) column ≡ Some v → Fits v
fits_in [] all row column v at = absurd cc
fits_in (r ∷ rs) all row column v at = by (int_eq r.0 row) at (fits_in rs all.1 row column v)
  where
    by : (b : Bool) → at_column (cond b (Some r.1) (row_of rs row)) column ≡ Some v → (at_column (row_of rs row) column ≡ Some v → Fits v) → Fits v
    by true at more = cells_at r.1 column v all.0 at
    by false at more = more at

cells_both : (xs ys : List Row) → HaveCells xs → HaveCells ys → HaveCells (xs ++ ys)
cells_both [] ys left right = right
cells_both (x ∷ xs) ys left right = (left.0, cells_both xs ys left.1 right)

cells_on : (k : ℤ) (rows : List Row) → AreOn k rows → HaveCells rows
cells_on k [] on = tt
cells_on k (r ∷ rs) on = (on.2, cells_on k rs on.3)

cells_all : (ps : List Page) → ArePages ps → HaveCells (all_of ps)
cells_all [] pages = tt
cells_all (p ∷ ps) pages = cells_both p.1 (all_of ps) (cells_on p.0 p.1 pages.0) (cells_all ps pages.3)

pub rows_fit : (ps : List Page) → ArePages ps → RowsFit (all_of ps)
rows_fit ps pages = fits_in (all_of ps) (cells_all ps pages)
