-- Lists by what is left of them after some elements.
use Rattle.std.proofs.Common.{◌≡◌, ℕ, zero, suc, ◌+◌, List, [], ◌∷◌, ◌++◌, take, option_map, drop, slice_get, slice_set, map, length, get_or, ◌<◌, refl, ap, sym, ◌∙◌, add-one, drop-cons}
use Rattle.std.proofs.lemmas.List.{take_more}
use Rattle.std.proofs.lemmas.Option.{slice_get-map}

pub length_of_map : {A B : Type 0} → (f : A → B) (xs : List A) → length (map f xs) ≡ length xs
length_of_map f [] = refl
length_of_map f (x ∷ xs) = ap suc (length_of_map f xs)

-- what is left of a list at one of its elements
pub item_here : {A : Type 0} → (xs : List A) (i : ℕ) (x : A) → i < length xs → x ≡ get_or xs i x → drop i xs ≡ x ∷ drop (i + 1) xs
item_here xs i x h e = rw add-one (drop-cons xs i x h ∙ ap (λ w. w ∷ drop (suc i) xs) (sym e))

-- one more element of a list
pub take_one_more : {A : Type 0} → (xs : List A) (i : ℕ) (x : A) → i < length xs → x ≡ get_or xs i x → take (i + 1) xs ≡ take i xs ++ x ∷ []
take_one_more xs i x h e = take_more xs i x h ∙ ap (λ y. take i xs ++ y ∷ []) (sym e)

pub slice_get_of_map : {A B : Type 0} → (f : A → B) (xs : List A) (i : ℕ) → slice_get (map f xs) i ≡ option_map f (slice_get xs i)
slice_get_of_map f xs i = slice_get-map f xs i

pub slice_set_twice : {A : Type 0} → (xs : List A) (i : ℕ) (x y : A) → slice_set (slice_set xs i x) i y ≡ slice_set xs i y
slice_set_twice [] i x y = refl
slice_set_twice (z ∷ zs) zero x y = refl
slice_set_twice (z ∷ zs) (suc i) x y = ap (λ ws. z ∷ ws) (slice_set_twice zs i x y)
