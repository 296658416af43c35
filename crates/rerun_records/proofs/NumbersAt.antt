-- Numbers by their places behind the change of a row, told from the last place to the first.
use Rattle.std.proofs.Common.{◌≡◌, ℕ, zero, suc, ◌≤◌, ◌<◌, ℤ, true, not, List, [], ◌∷◌, ◌++◌, length, Some, refl, sym, ap, ◌∙◌, subst, arith, get_or}
use Rattle.std.specs.Prelude.{slice_set, slice_get}
use Rattle.meaning.specs.Every.{every}
use Rattle.evaluation.specs.declared.note.Note.{Note}
use Rattle.record_theory.specs.Record.{PlainRecord}
use Rattle.record_theory.specs.InStep.{is_apart, IsInStep}
use Rattle.meaning.specs.Tables.{Tables}
use Rattle.rerun_records.specs.Line.{IsKnown}
use Rattle.record_theory.proofs.InStep.{fresh_agrees, counted_at}
use Rattle.rerun_records.specs.Covers.{AreApart}
use Rattle.record_numbers.specs.Stale.{most_number}
use Rattle.record_theory.specs.Numbers.{number_then, numbers_then, numbered_by, with_numbers}
use Rattle.record_theory.proofs.NumbersThen.{untouched_stays}

module _ (lost won : List Note) where
  -- the first numbers, so many, as they are then
  abbrev pub told_to : ℕ → List ℕ → List PlainRecord → List ℕ
  told_to zero ns rs = ns
  told_to (suc k) [] rs = []
  told_to (suc k) ns [] = ns
  told_to (suc k) (n ∷ ns) (r ∷ rs) = number_then lost won n r.reads ∷ told_to k ns rs

  pub told_all : (ns : List ℕ) (rs : List PlainRecord) → length ns ≡ length rs → told_to (length rs) ns rs ≡ numbers_then lost won ns rs
  told_all [] [] e = refl
  told_all (n ∷ ns) (r ∷ rs) e = ap (λ ms. number_then lost won n r.reads ∷ ms) (told_all ns rs (omega (arith, e)))
  told_all [] (r ∷ rs) e = absurd (omega (arith, e))
  told_all (n ∷ ns) [] e = absurd (omega (arith, e))

  -- the last of them is told
  pub told_one : (k : ℕ) (ns : List ℕ) (rs : List PlainRecord) (n : ℕ) (r : PlainRecord) → k < length ns → k < length rs → n ≡ number_then lost won (get_or ns k 0) r.reads
      → r ≡ get_or rs k r → told_to k (slice_set ns k n) rs ≡ told_to (suc k) ns rs
  told_one k [] rs n r l m e f = absurd (omega (arith, l))
  told_one k (x ∷ ns) [] n r l m e f = absurd (omega (arith, m))
  told_one zero (x ∷ ns) (y ∷ rs) n r l m e f = ap (λ z. z ∷ ns) (e ∙ ap (λ (s : PlainRecord). number_then lost won x s.reads) f)
  told_one (suc k) (x ∷ ns) (y ∷ rs) n r l m e f = ap (λ ms. number_then lost won x y.reads ∷ ms) (told_one k ns rs n r (omega (arith, l)) (omega (arith, m)) e f)

  -- the last of them stay as they are
  pub told_fewer : (first end : ℕ) (ns : List ℕ) (rs : List PlainRecord) → first ≤ end
      → ((p n : ℕ) (r : PlainRecord) → first ≤ p → p < end → slice_get ns p ≡ Some n → slice_get rs p ≡ Some r → n ≡ number_then lost won n r.reads)
      → told_to end ns rs ≡ told_to first ns rs
  told_fewer zero zero ns rs l h = refl
  told_fewer zero (suc end) [] rs l h = refl
  told_fewer zero (suc end) (n ∷ ns) [] l h = refl
  told_fewer zero (suc end) (n ∷ ns) (r ∷ rs) l h =
      ap (λ m. m ∷ told_to end ns rs) (sym (h 0 n r (omega arith) (omega arith) refl refl))
      ∙ ap (λ ms. n ∷ ms) (told_fewer zero end ns rs (omega arith) (λ p m s a b e f. h (suc p) m s (omega arith) (omega (arith, b)) e f))
  told_fewer (suc first) zero ns rs l h = absurd (omega (arith, l))
  told_fewer (suc first) (suc end) [] rs l h = refl
  told_fewer (suc first) (suc end) (n ∷ ns) [] l h = refl
  told_fewer (suc first) (suc end) (n ∷ ns) (r ∷ rs) l h =
      ap (λ ms. number_then lost won n r.reads ∷ ms) (told_fewer first end ns rs (omega (arith, l)) (λ p m s a b e f. h (suc p) m s (omega (arith, a)) (omega (arith, b)) e f))

-- ---- in four bytes

got : (ns : List ℕ) (p n : ℕ) → slice_get ns p ≡ Some n → get_or ns p 0 ≡ n
got [] p n e = absurd cc
got (m ∷ ns) zero n e = let q : m ≡ n = cc in q
got (m ∷ ns) (suc p) n e = got ns p n e

pub small_set : (ns : List ℕ) (k v : ℕ) → v ≤ most_number → ((i : ℕ) → get_or ns i 0 ≤ most_number) → (i : ℕ) → get_or (slice_set ns k v) i 0 ≤ most_number
small_set [] k v l h i = h i
small_set (n ∷ ns) zero v l h zero = l
small_set (n ∷ ns) zero v l h (suc i) = h (suc i)
small_set (n ∷ ns) (suc k) v l h zero = h 0
small_set (n ∷ ns) (suc k) v l h (suc i) = small_set ns k v l (λ j. h (suc j)) i

-- records from one place up to another have read nothing of the change, so their numbers stay as they are
pub told_apart : (change : ℕ × ℤ) (lost won : List Note) (first end : ℕ) (ns : List ℕ) (rs : List PlainRecord) → every (λ y. not (is_apart (change ∷ []) y)) (lost ++ won) ≡ true
    → ((i : ℕ) → get_or ns i 0 ≤ most_number) → first ≤ end → AreApart rs change first end → told_to lost won first ns rs ≡ told_to lost won end ns rs
told_apart change lost won first end ns rs rest small l apart =
    sym (told_fewer lost won first end ns rs l
    (λ p n r a b e f. untouched_stays change lost won r.reads n rest (apart p r a b f) (subst (λ m. m ≤ most_number) (got ns p n e) (small p))))

-- ---- what is known of the record at a place

-- its number stands beside it
numbered_at : (ns : List ℕ) (rs : List PlainRecord) (k : ℕ) (r : PlainRecord) → k < length ns → k < length rs → r ≡ get_or rs k r
    → slice_get (with_numbers ns rs) k ≡ Some (numbered_by (get_or ns k 0) r)
numbered_at [] rs k r l m e = absurd (omega (arith, l))
numbered_at (n ∷ ns) [] k r l m e = absurd (omega (arith, m))
numbered_at (n ∷ ns) (x ∷ rs) zero r l m e = ap (λ (y : PlainRecord). Some (numbered_by n y)) (sym e)
numbered_at (n ∷ ns) (x ∷ rs) (suc k) r l m e = numbered_at ns rs k r (omega (arith, l)) (omega (arith, m)) e

pub known_at : (tables : Tables) (ns : List ℕ) (rs : List PlainRecord) (k n : ℕ) (r : PlainRecord) → k < length ns → k < length rs → r ≡ get_or rs k r → n ≡ get_or ns k 0
    → IsInStep tables (with_numbers ns rs) → IsKnown tables n r.reads
known_at tables ns rs k n r l m e f h =
    subst (λ (x : ℕ). IsKnown tables x r.reads) (sym f)
    (λ none. fresh_agrees tables (numbered_by (get_or ns k 0) r) (counted_at tables (with_numbers ns rs) k (numbered_by (get_or ns k 0) r) h (numbered_at ns rs k r l m e)) none)

-- another place's number is as it was
pub same_but : (ns ms : List ℕ) (k v p : ℕ) → p < k → get_or ns p 0 ≡ get_or ms p 0 → get_or (slice_set ns k v) p 0 ≡ get_or ms p 0
same_but ns ms k v p l e = other ns k p l ∙ e
  where
    other : (xs : List ℕ) (j q : ℕ) → q < j → get_or (slice_set xs j v) q 0 ≡ get_or xs q 0
    other [] j q less = refl
    other (x ∷ xs) zero q less = absurd (omega (arith, less))
    other (x ∷ xs) (suc j) zero less = refl
    other (x ∷ xs) (suc j) (suc q) less = other xs j q (omega (arith, less))
