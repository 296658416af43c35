-- The first n and the last n of joined lists.
use Rattle.std.specs.Prelude.{◌≡◌, ℕ, zero, suc, ◌+◌, ◌-◌, ◌<◌, ◌≤◌, List, [], ◌∷◌, ◌++◌, take, drop, length, refl, ℤ}
use Rattle.std.proofs.Common.{sym, ◌∙◌, ap, arith, append_assoc, length-append, length-drop, drop-drop}
use Rattle.std.proofs.Math.Seq.{drop-append_seam, drop-append-add}
use Rattle.std.proofs.lemmas.List.{drop-append-le}
use native.Mathlib.Decide.{dec_le}
use Prim.{yes, no}
use Rattle.monoid_laws.specs.Kinds.{last_of}

take_front : (n m : ℕ) (ls zs : List ℤ) → n ≤ m → take n (take m ls ++ zs) ≡ take n (ls ++ zs)
take_front zero m ls zs h = refl
take_front (suc n) zero ls zs h = absurd (omega arith)
take_front (suc n) (suc m) [] zs h = refl
take_front (suc n) (suc m) (a ∷ ls) zs h = ap (λ r. a ∷ r) (take_front n m ls zs (omega arith))

take_back : (n m : ℕ) (xs bs : List ℤ) → n ≤ m → take n (xs ++ take m bs) ≡ take n (xs ++ bs)
take_back zero m xs bs h = refl
take_back (suc n) zero xs bs h = absurd (omega arith)
take_back (suc n) (suc m) [] [] h = refl
take_back (suc n) (suc m) [] (b ∷ bs) h = ap (λ r. b ∷ r) (take_back n m [] bs (omega arith))
take_back (suc n) (suc m) (x ∷ xs) bs h = ap (λ r. x ∷ r) (take_back n (suc m) xs bs (omega arith))

pub first_assoc : (n : ℕ) (xs ys zs : List ℤ) → take n (take n (xs ++ ys) ++ zs) ≡ take n (xs ++ take n (ys ++ zs))
first_assoc n xs ys zs =
    take_front n n (xs ++ ys) zs (omega arith) ∙ ap (take n) (append_assoc xs ys zs) ∙ sym (take_back n n xs (ys ++ zs) (omega arith))

by_le : {P : Type 0} (a b : ℕ) → (a ≤ b → P) → (b < a → P) → P
by_le a b f g = elim (dec_le a b) [ yes h ↦ f h | no h ↦ g (omega (arith, h)) ]

last_front : (n : ℕ) (ls zs : List ℤ) → last_of n (last_of n ls ++ zs) ≡ last_of n (ls ++ zs)
last_front n ls zs = by_le (length ls) n
    (λ h. ap (λ k. last_of n (drop k ls ++ zs)) (let e : length ls - n ≡ 0 = omega arith in e))
    (λ h.
    let k : ℕ = length ls - n in
    let l : length (drop k ls ++ zs) - n ≡ length zs = omega (arith, length-append (drop k ls) zs, length-drop k ls) in
    let r : length (ls ++ zs) - n ≡ k + length zs = omega (arith, length-append ls zs) in
    ap (λ j. drop j (drop k ls ++ zs)) l
    ∙ ap (drop (length zs)) (sym (drop-append-le k ls zs (omega arith)))
    ∙ drop-drop (length zs) k (ls ++ zs)
    ∙ sym (ap (λ j. drop j (ls ++ zs)) r))

last_back : (n : ℕ) (xs bs : List ℤ) → last_of n (xs ++ last_of n bs) ≡ last_of n (xs ++ bs)
last_back n xs bs = by_le (length bs) n
    (λ h. ap (λ k. last_of n (xs ++ drop k bs)) (let e : length bs - n ≡ 0 = omega arith in e))
    (λ h.
    let k : ℕ = length bs - n in
    let l : length (xs ++ drop k bs) - n ≡ length xs = omega (arith, length-append xs (drop k bs), length-drop k bs) in
    let r : length (xs ++ bs) - n ≡ length xs + k = omega (arith, length-append xs bs) in
    ap (λ j. drop j (xs ++ drop k bs)) l
    ∙ drop-append_seam xs (drop k bs)
    ∙ sym (ap (λ j. drop j (xs ++ bs)) r ∙ drop-append-add xs bs k))

pub last_assoc : (n : ℕ) (xs ys zs : List ℤ) → last_of n (last_of n (xs ++ ys) ++ zs) ≡ last_of n (xs ++ last_of n (ys ++ zs))
last_assoc n xs ys zs =
    last_front n (xs ++ ys) zs ∙ ap (last_of n) (append_assoc xs ys zs) ∙ sym (last_back n xs (ys ++ zs))

pub take_all : (n : ℕ) (xs : List ℤ) → length xs ≤ n → take n xs ≡ xs
take_all zero [] h = refl
take_all (suc n) [] h = refl
take_all zero (x ∷ xs) h = absurd (omega arith)
take_all (suc n) (x ∷ xs) h = ap (λ r. x ∷ r) (take_all n xs (omega arith))

pub last_all : (n : ℕ) (xs : List ℤ) → length xs ≤ n → last_of n xs ≡ xs
last_all n xs h = ap (λ k. drop k xs) (let e : length xs - n ≡ 0 = omega arith in e)
