-- Lists of one and of two.
use Rattle.std.proofs.Common.{◌≡◌, List, [], ◌∷◌, length, slice_index_or, refl, sym, ap, ◌∙◌, arith}

none_left : {A : Type 0} (xs : List A) → length xs ≡ 0 → xs ≡ []
none_left [] e = refl
none_left (x ∷ xs) e = absurd (omega arith)

pub one_of : {A : Type 0} (xs : List A) (x : A) → length xs ≡ 1 → x ≡ slice_index_or xs 0 x → xs ≡ x ∷ []
one_of [] x e first = absurd (omega arith)
one_of (y ∷ xs) x e first = ap (λ ys. y ∷ ys) (none_left xs (omega arith)) ∙ ap (λ z. z ∷ []) (sym first)

pub two_of : {A : Type 0} (xs : List A) (x y : A) → length xs ≡ 2 → x ≡ slice_index_or xs 0 x → y ≡ slice_index_or xs 1 y → xs ≡ x ∷ y ∷ []
two_of [] x y e first second = absurd (omega arith)
two_of (z ∷ xs) x y e first second = ap (λ ys. z ∷ ys) (one_of xs y (omega arith) second) ∙ ap (λ w. w ∷ y ∷ []) (sym first)
