-- The totals of columns with one value more put on them, or taken off.
use Rattle.std.proofs.Common.{◌≡◌, ℕ, zero, suc, ℤ, ◌+ℤ◌, List, [], ◌∷◌, Some, None, refl, ap, ◌∙◌, take, w64}
use Rattle.std.specs.Int.{int_wrap}
use Rattle.std.specs.Prelude.{◌-ℤ◌, slice_get, slice_set}
use Rattle.table_parts.specs.Sums.{added, taken}

added_more : (ss vs : List ℤ) (i : ℕ) (s v : ℤ) → slice_get (added ss (take i vs)) i ≡ Some s → slice_get vs i ≡ Some v
    → added ss (take (suc i) vs) ≡ slice_set (added ss (take i vs)) i (int_wrap w64 (s +ℤ v))
added_more ss [] i s v at is = absurd cc
added_more [] (y ∷ vs) zero s v at is = absurd cc
added_more [] (y ∷ vs) (suc i) s v at is = absurd cc
added_more (x ∷ ss) (y ∷ vs) zero s v at is =
    let left : x ≡ s = cc in
    let right : y ≡ v = cc in
    rw (left, right) refl
added_more (x ∷ ss) (y ∷ vs) (suc i) s v at is = ap (λ l. int_wrap w64 (x +ℤ y) ∷ l) (added_more ss vs i s v at is)

added_past : (ss vs : List ℤ) (i : ℕ) → slice_get (added ss (take i vs)) i ≡ None → added ss (take (suc i) vs) ≡ added ss (take i vs)
added_past ss [] zero at = refl
added_past ss [] (suc i) at = refl
added_past [] (y ∷ vs) zero at = refl
added_past [] (y ∷ vs) (suc i) at = refl
added_past (x ∷ ss) (y ∷ vs) zero at = absurd cc
added_past (x ∷ ss) (y ∷ vs) (suc i) at = ap (λ l. int_wrap w64 (x +ℤ y) ∷ l) (added_past ss vs i at)

taken_more : (ss vs : List ℤ) (i : ℕ) (s v : ℤ) → slice_get (taken ss (take i vs)) i ≡ Some s → slice_get vs i ≡ Some v
    → taken ss (take (suc i) vs) ≡ slice_set (taken ss (take i vs)) i (int_wrap w64 (s -ℤ v))
taken_more ss [] i s v at is = absurd cc
taken_more [] (y ∷ vs) zero s v at is = absurd cc
taken_more [] (y ∷ vs) (suc i) s v at is = absurd cc
taken_more (x ∷ ss) (y ∷ vs) zero s v at is =
    let left : x ≡ s = cc in
    let right : y ≡ v = cc in
    rw (left, right) refl
taken_more (x ∷ ss) (y ∷ vs) (suc i) s v at is = ap (λ l. int_wrap w64 (x -ℤ y) ∷ l) (taken_more ss vs i s v at is)

taken_past : (ss vs : List ℤ) (i : ℕ) → slice_get (taken ss (take i vs)) i ≡ None → taken ss (take (suc i) vs) ≡ taken ss (take i vs)
taken_past ss [] zero at = refl
taken_past ss [] (suc i) at = refl
taken_past [] (y ∷ vs) zero at = refl
taken_past [] (y ∷ vs) (suc i) at = refl
taken_past (x ∷ ss) (y ∷ vs) zero at = absurd cc
taken_past (x ∷ ss) (y ∷ vs) (suc i) at = ap (λ l. int_wrap w64 (x -ℤ y) ∷ l) (taken_past ss vs i at)

pub added_next : (ss vs : List ℤ) (i j : ℕ) (s v : ℤ) → j ≡ suc i → slice_get (added ss (take i vs)) i ≡ Some s → slice_get vs i ≡ Some v
    → added ss (take j vs) ≡ slice_set (added ss (take i vs)) i (int_wrap w64 (s +ℤ v))
added_next ss vs i j s v next at is = ap (λ k. added ss (take k vs)) next ∙ added_more ss vs i s v at is

pub added_none : (ss vs : List ℤ) (i j : ℕ) → j ≡ suc i → slice_get (added ss (take i vs)) i ≡ None → added ss (take j vs) ≡ added ss (take i vs)
added_none ss vs i j next at = ap (λ k. added ss (take k vs)) next ∙ added_past ss vs i at

pub taken_next : (ss vs : List ℤ) (i j : ℕ) (s v : ℤ) → j ≡ suc i → slice_get (taken ss (take i vs)) i ≡ Some s → slice_get vs i ≡ Some v
    → taken ss (take j vs) ≡ slice_set (taken ss (take i vs)) i (int_wrap w64 (s -ℤ v))
taken_next ss vs i j s v next at is = ap (λ k. taken ss (take k vs)) next ∙ taken_more ss vs i s v at is

pub taken_none : (ss vs : List ℤ) (i j : ℕ) → j ≡ suc i → slice_get (taken ss (take i vs)) i ≡ None → taken ss (take j vs) ≡ taken ss (take i vs)
taken_none ss vs i j next at = ap (λ k. taken ss (take k vs)) next ∙ taken_past ss vs i at
