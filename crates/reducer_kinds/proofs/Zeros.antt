-- What stands behind a table's rows.
use Rattle.std.specs.Prelude.{◌≡◌, ℕ, zero, suc, ◌-◌, ◌≤◌, List, [], ◌∷◌, length, drop, replicate, slice_index, refl}
use Rattle.std.proofs.Common.{arith, subst}
use Rattle.std.proofs.lemmas.List.{length-drop, get_or_past}

all_zero : (xs : List ℕ) → ((k : ℕ) → slice_index xs k ≡ 0) → xs ≡ replicate (length xs) 0
all_zero [] h = refl
all_zero (x ∷ xs) h =
    let e : x ≡ 0 = h 0 in
    let t = all_zero xs (λ k. h (suc k)) in
    cc

zero_behind : (n : ℕ) (xs : List ℕ) → ((k : ℕ) → n ≤ k → slice_index xs k ≡ 0) → drop n xs ≡ replicate (length (drop n xs)) 0
zero_behind zero xs h = all_zero xs (λ k. h k (omega arith))
zero_behind (suc n) [] h = refl
zero_behind (suc n) (x ∷ xs) h = zero_behind n xs (λ k le. h (suc k) (omega (arith, le)))

pub zeros_behind : (n m : ℕ) (xs : List ℕ) → length xs ≡ m → ((k : ℕ) → n ≤ k → slice_index xs k ≡ 0) → drop n xs ≡ replicate (m - n) 0
zeros_behind n m xs e h =
    let l : length (drop n xs) ≡ m - n = rw (length-drop, e) refl in
    subst (λ (k : ℕ). drop n xs ≡ replicate k 0) l (zero_behind n xs h)

pub zero_of : (n k : ℕ) → slice_index (replicate n 0) k ≡ 0
zero_of zero k = get_or_past [] k 0 (omega arith)
zero_of (suc n) zero = refl
zero_of (suc n) (suc k) = zero_of n k
