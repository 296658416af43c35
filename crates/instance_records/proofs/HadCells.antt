-- Rows of which cells were read: one more, one of them, those of more notes.
use Rattle.std.proofs.Common.{◌≡◌, ◌⊎◌, inl, inr, ℕ, zero, suc, ◌+◌, ◌≤◌, ◌<◌, ◌≤ℤ◌, ◌<ℤ◌, ℤ, pos, Bool, true, false, true≢false, List, [], ◌∷◌, ◌++◌, map, refl, sym, ap, ◌∙◌, subst, arith}
use Rattle.std.specs.Prelude.{◌&&◌, ◌||◌, nat_eq}
use Rattle.std.specs.List.{list_any}
use Rattle.std.specs.Ordering.{int_eq}
use Rattle.std.proofs.lemmas.Bool.Decides.{Decides-eqb, leb_tells}
use Rattle.evaluation.specs.declared.note.Note.{Note}
use Rattle.evaluation.specs.declared.note.Note.TheVariants.{Cell, Has, Limit, Sum}
use Rattle.record_theory.specs.Same.{same_note, is_read}
use Rattle.record_theory.proofs.Members.{left_is, right_is, both}
use Rattle.instance_records.specs.Full.{is_of_cell, has_cell, HasCells}

-- ---- a cell that was read

same_cell : (t : ℕ) (row : ℤ) (c : ℕ) (v : ℤ) (n : Note) → same_note (Cell t row c v) n ≡ true → is_of_cell t row c n ≡ true
same_cell t row c v (Cell u s d w) e =
    let rest = right_is (nat_eq t u) (int_eq row s && (nat_eq c d && int_eq v w)) e in
    let last = right_is (int_eq row s) (nat_eq c d && int_eq v w) rest in
    both (nat_eq t u) (int_eq row s && nat_eq c d) (left_is (nat_eq t u) (int_eq row s && (nat_eq c d && int_eq v w)) e)
    (both (int_eq row s) (nat_eq c d) (left_is (int_eq row s) (nat_eq c d && int_eq v w) rest) (left_is (nat_eq c d) (int_eq v w) last))
same_cell t row c v (Has u s there) e = absurd (true≢false (sym e))
same_cell t row c v (Limit u w) e = absurd (true≢false (sym e))
same_cell t row c v (Sum u d w) e = absurd (true≢false (sym e))

either : (a b p q : Bool) → (a ≡ true → p ≡ true) → (b ≡ true → q ≡ true) → a || b ≡ true → p || q ≡ true
either true b p q f g e = ap (λ x. x || q) (f refl)
either false b true q f g e = refl
either false b false q f g e = g e

pub cell_there : (notes : List Note) (t : ℕ) (row : ℤ) (c : ℕ) (v : ℤ) → is_read notes (Cell t row c v) ≡ true → has_cell notes t row c ≡ true
cell_there [] t row c v e = e
cell_there (n ∷ ns) t row c v e =
    either (same_note (Cell t row c v) n) (is_read ns (Cell t row c v)) (is_of_cell t row c n) (has_cell ns t row c) (same_cell t row c v n) (cell_there ns t row c v) e

-- ---- among more notes

pub on_right : (a b : Bool) → b ≡ true → a || b ≡ true
on_right true b e = refl
on_right false b e = e

pub cell_before : (xs ys : List Note) (t : ℕ) (row : ℤ) (c : ℕ) → has_cell xs t row c ≡ true → has_cell (xs ++ ys) t row c ≡ true
cell_before [] ys t row c e = absurd (true≢false (sym e))
cell_before (x ∷ xs) ys t row c e =
    either (is_of_cell t row c x) (has_cell xs t row c) (is_of_cell t row c x) (has_cell (xs ++ ys) t row c) (λ h. h) (cell_before xs ys t row c) e

pub cell_behind : (xs ys : List Note) (t : ℕ) (row : ℤ) (c : ℕ) → has_cell ys t row c ≡ true → has_cell (xs ++ ys) t row c ≡ true
cell_behind [] ys t row c e = e
cell_behind (x ∷ xs) ys t row c e = on_right (is_of_cell t row c x) (has_cell (xs ++ ys) t row c) (cell_behind xs ys t row c e)

-- ---- rows and columns, one more

one_of : (i last : ℕ) → i < last + 1 → (i ≡ last) ⊎ (i < last)
one_of i last l =
    elim (leb_tells last i) as (λ _. (i ≡ last) ⊎ (i < last)) [
      | inl le ↦ (let h = le.1 in inl (omega (arith, h, l)))
      | inr gt ↦ (let h = gt.1 in inr (omega (arith, h)))
    ]

module _ (notes : List Note) where
  pub one_cell : (t : ℕ) (row : ℤ) (first next : ℕ) → HasCells notes t row first next → has_cell notes t row next ≡ true → HasCells notes t row first (next + 1)
  one_cell t row first next h e c lo hi =
      elim (one_of c next hi) as (λ _. has_cell notes t row c ≡ true) [
        | inl same ↦ ap (has_cell notes t row) same ∙ e
        | inr less ↦ h c lo less
      ]

  pub first_cell : (t : ℕ) (row : ℤ) (first : ℕ) → has_cell notes t row first ≡ true → HasCells notes t row first (first + 1)
  first_cell t row first e c lo hi = let same : c ≡ first = omega (arith, lo, hi) in ap (has_cell notes t row) same ∙ e

  -- of rows from one up to another
  abbrev pub Rows : ℕ → ℕ → ℕ → ℕ → ℕ → Type 0
  Rows low until t first end = (row : ℕ) → low ≤ row → row < until → HasCells notes t (pos row) first end

  pub no_rows : (low until t first end : ℕ) → until ≤ low → Rows low until t first end
  no_rows low until t first end l row lo hi = absurd (omega (arith, l, lo, hi))

  pub one_row : (low until t first end : ℕ) → Rows low until t first end → HasCells notes t (pos until) first end → Rows low (until + 1) t first end
  one_row low until t first end h e row lo hi =
      elim (one_of row until hi) as (λ _. HasCells notes t (pos row) first end) [
        | inl same ↦ subst (λ (k : ℕ). HasCells notes t (pos k) first end) (sym same) e
        | inr less ↦ h row lo less
      ]

  pub both_rows : (low mid until t first end : ℕ) → Rows low mid t first end → Rows mid until t first end → Rows low until t first end
  both_rows low mid until t first end g h row lo hi =
      elim (leb_tells mid row) as (λ _. HasCells notes t (pos row) first end) [
        | inl le ↦ h row le.1 hi
        | inr gt ↦ (let less = gt.1 in g row lo (omega (arith, less)))
      ]

  -- fewer columns
  pub narrower : (t : ℕ) (row : ℤ) (first end from to : ℕ) → HasCells notes t row first end → first ≤ from → to ≤ end → HasCells notes t row from to
  narrower t row first end from to h l m c lo hi = h c (omega (arith, l, lo)) (omega (arith, m, hi))
