-- One more value behind those that are gathered.
use Rattle.std.proofs.Common.{◌≡◌, true, false, List, [], ◌∷◌, ◌++◌, Option, Some, None, is_none, refl}
use Rattle.layers.specs.Gatherings.{gathered_of}

module _ {A : Type 0} (v : A) where
  pub first_put : (f s : Option A) (xs : List A) → is_none f ≡ true → xs ≡ [] → gathered_of (Some v) None xs ≡ gathered_of f s xs ++ v ∷ []
  first_put None s [] e n = refl
  first_put None s (x ∷ xs) e n = absurd cc
  first_put (Some a) s xs e n = absurd cc

  pub second_put : (f s : Option A) (xs : List A) → is_none f ≡ false → is_none s ≡ true → gathered_of f (Some v) xs ≡ gathered_of f s xs ++ v ∷ []
  second_put None s xs e n = absurd cc
  second_put (Some a) None xs e n = refl
  second_put (Some a) (Some b) xs e n = absurd cc

  pub other_put : (f s : Option A) (xs ys : List A) → is_none f ≡ true → ys ≡ xs ++ v ∷ [] → gathered_of f s ys ≡ gathered_of f s xs ++ v ∷ []
  other_put None s xs ys e n = n
  other_put (Some a) s xs ys e n = absurd cc
