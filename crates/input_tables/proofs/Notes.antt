-- A row that is noted before it is edited, and the room for it.
use Rattle.std.proofs.Common.{◌≡◌, ℕ, zero, suc, ◌≤◌, ◌<◌, ℤ, pos, Bool, true, false, cond, List, [], ◌∷◌, ◌++◌, length, Option, Some, None, IfSome, option_map, Bor, inl, inr, refl, ap, ap₂, sym, ◌∙◌, subst, arith}
use Rattle.std.specs.Prelude.{slice_get, slice_set}
use Rattle.std.specs.Int.{w64, int_wrap}
use Rattle.std.specs.Ordering.{int_eq}
use Rattle.std.proofs.lemmas.Bool.{cases_lt}
use Rattle.meaning.specs.Tables.{Tables, Listed, row_of, above_all, amount_in, column_total}
use Rattle.input_tables.specs.Befores.{PlainBefore, total_at}
use Rattle.input_tables.specs.Edited.{rows_at, columns_at, IsNoted, HasNoMore}
use Rattle.input_tables.specs.Rows.{Row, AreWide}
use Rattle.input_tables.specs.Sums.{AreTotals}
use Rattle.input_tables.proofs.Numbered.{rows_at-there, columns_at-there}

amount_total : (ss : List ℤ) (c : ℕ) → amount_in (slice_get ss c) ≡ total_at ss c
amount_total [] c = refl
amount_total (s ∷ ss) zero = refl
amount_total (s ∷ ss) (suc c) = amount_total ss c

-- what the table of a number says of a row is what all tables have of it
noted_row : (ts : Tables) (n : ℕ) (t : Listed) (row : ℤ) (was : PlainBefore) → slice_get ts n ≡ Some t → was.table ≡ n → was.row ≡ row → row_of t.rows row ≡ was.values
    → above_all (pos 0) t.rows ≡ was.limit → AreTotals was.sums t.rows → length was.sums ≡ length t.columns → IsNoted ts n row was
noted_row ts n t row was at table_is row_is values limit totals wide =
    let rows = ap (rows_at ts) table_is ∙ rows_at-there ts n t at in
    record {
      table_is = table_is;
      row_is = row_is;
      before =
          record {
            values_are = ap₂ row_of rows row_is ∙ values;
            limit_is = ap (above_all (pos 0)) rows ∙ limit;
            sums_are = λ c. ap (λ rs. int_wrap w64 (column_total c rs)) rows ∙ sym (totals c) ∙ amount_total was.sums c;
            wide = wide ∙ ap length (sym (ap (columns_at ts) table_is ∙ columns_at-there ts n t at));
          };
    }

-- so it is of what was taken over of it, whose row's number is another term
pub noted_then : (ts : Tables) (n : ℕ) (t : Listed) (m row : ℤ) (noted was : PlainBefore) → m ≡ row → slice_get ts n ≡ Some t → noted.table ≡ n → noted.row ≡ m
    → row_of t.rows m ≡ noted.values → above_all (pos 0) t.rows ≡ noted.limit → AreTotals noted.sums t.rows → length noted.sums ≡ length t.columns → was ≡ noted → IsNoted ts n row was
noted_then ts n t m row noted was same at table_is row_is values limit totals wide is =
    subst (IsNoted ts n row) (sym is) (subst (λ r. IsNoted ts n r noted) same (noted_row ts n t m noted at table_is row_is values limit totals wide))

-- ---- a row that is there is as wide as others

pub row_wide : (w : ℕ) (rows : List Row) (r : ℤ) (vs : List ℤ) → AreWide w rows → row_of rows r ≡ Some vs → length vs ≡ w
row_wide w [] r vs wide e = absurd cc
row_wide w ((m, us) ∷ rows) r vs wide e = by (int_eq m r) (row_wide w rows r vs wide.1) e
  where
    by : (b : Bool) → (row_of rows r ≡ Some vs → length vs ≡ w) → cond b (Some us) (row_of rows r) ≡ Some vs → length vs ≡ w
    by true behind f = (let same : us ≡ vs = cc in sym (ap length same) ∙ wide.0)
    by false behind f = behind f

pub has_room : (w n : ℕ) (rows : List Row) (r : ℤ) (o : Option (Bor (List ℤ))) → AreWide w rows → w ≤ n → option_map (λ vs. vs.now) o ≡ row_of rows r → IfSome o (λ vs. length vs.now ≤ n)
has_room w n rows r None wide l e = tt
has_room w n rows r (Some vs) wide l e = (let so : length vs.now ≡ w = row_wide w rows r vs.now wide (sym e) in omega (arith, l, so))

-- ---- room for the rows of all tables

-- the table of a number has no more columns either
pub own_columns : (ts : Tables) (n most : ℕ) (t : Listed) → slice_get ts n ≡ Some t → HasNoMore ts most → length t.columns ≤ most
own_columns ts n most t at h = subst (λ (cs : List _). length cs ≤ most) (columns_at-there ts n t at) (h n)

columns_set : (ts : Tables) (n : ℕ) (x y : Listed) → slice_get ts n ≡ Some x → y.columns ≡ x.columns → (k : ℕ) → columns_at (slice_set ts n y) k ≡ columns_at ts k
columns_set [] n x y at e k = absurd cc
columns_set (t ∷ ts) zero x y at e zero = let same : t ≡ x = cc in e ∙ ap (λ z. z.columns) (sym same)
columns_set (t ∷ ts) zero x y at e (suc k) = refl
columns_set (t ∷ ts) (suc n) x y at e zero = refl
columns_set (t ∷ ts) (suc n) x y at e (suc k) = columns_set ts n x y at e k

-- a table that is set has as many columns
pub no_more_set : (ts : Tables) (n most : ℕ) (x y : Listed) → slice_get ts n ≡ Some x → y.columns ≡ x.columns → HasNoMore ts most → HasNoMore (slice_set ts n y) most
no_more_set ts n most x y at e h k = subst (λ (cs : List _). length cs ≤ most) (sym (columns_set ts n x y at e k)) (h k)

-- one table more
pub no_more_added : (ts : Tables) (t : Listed) (most more : ℕ) → HasNoMore ts most → most ≤ more → length t.columns ≤ more → HasNoMore (ts ++ t ∷ []) more
no_more_added [] t most more h l own zero = own
no_more_added [] t most more h l own (suc n) = omega arith
no_more_added (x ∷ xs) t most more h l own zero = (let few : length x.columns ≤ most = h zero in omega (arith, few, l))
no_more_added (x ∷ xs) t most more h l own (suc n) = no_more_added xs t most more (λ k. h (suc k)) l own n

-- beyond the tables that there are a table has no columns
pub widest_is : (ts : Tables) (count most : ℕ) → length ts ≤ count → ((n : ℕ) → n < count → length (columns_at ts n) ≤ most) → HasNoMore ts most
widest_is ts count most l h n =
    elim (cases_lt n count) as (λ _. length (columns_at ts n) ≤ most) [
      | inl within ↦ h n within
      | inr beyond ↦ (let none : length (columns_at ts n) ≡ 0 = no_columns ts n (omega (arith, l, beyond)) in omega (arith, none))
    ]
  where
    no_columns : (ts : Tables) (n : ℕ) → length ts ≤ n → length (columns_at ts n) ≡ 0
    no_columns [] n m = refl
    no_columns (x ∷ xs) zero m = absurd (omega (arith, m))
    no_columns (x ∷ xs) (suc n) m = no_columns xs n (omega (arith, m))
