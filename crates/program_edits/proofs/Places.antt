-- What a list shows after one is put in.
use Rattle.std.proofs.Common.{◌≡◌, ℕ, zero, suc, ◌+◌, Bool, true, false, List, [], ◌∷◌, map, Option, Some, refl, ap, subst}
use Rattle.std.specs.Prelude.{insert, slice_set}
use Rattle.std.proofs.lemmas.List.{map-set}
use Rattle.program_edits.specs.Putting.{spot_of, put_at}

map_insert : {A B : Type 0} (f : A → B) (xs : List A) (i : ℕ) (x : A) → map f (insert xs i x) ≡ insert (map f xs) i (f x)
map_insert f [] zero x = refl
map_insert f [] (suc i) x = refl
map_insert f (y ∷ ys) zero x = refl
map_insert {B = B} f (y ∷ ys) (suc i) x = ap (λ (zs : List B). f y ∷ zs) (map_insert f ys i x)

module _ {A B : Type 0} (f : A → B) (xs ys : List A) (x : A) (n : ℕ) (again : Bool) (o : Option ℕ) (at : Some n ≡ o) where
  pub put_behind : again ≡ true → ys ≡ insert xs (n + 1) x → map f ys ≡ put_at (spot_of again o) (f x) (map f xs)
  put_behind t e = subst (λ (p : Option ℕ). map f ys ≡ put_at (spot_of again p) (f x) (map f xs)) at (rw (t, e) (map_insert f xs (n + 1) x))

  pub put_over : again ≡ false → ys ≡ slice_set xs n x → map f ys ≡ put_at (spot_of again o) (f x) (map f xs)
  put_over t e = subst (λ (p : Option ℕ). map f ys ≡ put_at (spot_of again p) (f x) (map f xs)) at (rw (t, e) (map-set f xs n x))
