-- A strand of that number and its right neighbour, in the list of the strands.
use Rattle.std.proofs.Common.{arith, ◌≡◌, ℕ, zero, suc, ◌+◌, ◌<◌, List, [], ◌∷◌, ◌++◌, All, length, take, drop, get_or, remove, insert, refl, ap, add-one}
use Rattle.std.specs.Prelude.{slice_set as set}
use Rattle.std.proofs.lemmas.List.Elements.{All-take, All-drop, All-append, All-cons}

two_at_suc : {A : Type 0} (xs : List A) (i : ℕ) (d : A) → suc i < length xs → xs ≡ take i xs ++ get_or xs i d ∷ get_or xs (suc i) d ∷ drop (suc (suc i)) xs
two_at_suc [] i d h = absurd (omega arith)
two_at_suc (x ∷ []) i d h = absurd (omega arith)
two_at_suc (x ∷ y ∷ xs) zero d h = refl
two_at_suc (x ∷ y ∷ xs) (suc i) d h = ap (λ zs. x ∷ zs) (two_at_suc (y ∷ xs) i d (omega arith))

one_of_suc : {A : Type 0} (xs : List A) (i : ℕ) (v : A) → suc i < length xs → set (remove xs (suc i)) i v ≡ take i xs ++ v ∷ drop (suc (suc i)) xs
one_of_suc [] i v h = absurd (omega arith)
one_of_suc (x ∷ xs) zero v h = refl
one_of_suc (x ∷ xs) (suc i) v h = ap (λ zs. x ∷ zs) (one_of_suc xs i v (omega arith))

both_of_suc : {A : Type 0} (xs : List A) (i : ℕ) (v w : A) → suc i < length xs → insert (set (remove xs (suc i)) i v) (suc i) w ≡ take i xs ++ v ∷ w ∷ drop (suc (suc i)) xs
both_of_suc [] i v w h = absurd (omega arith)
both_of_suc (x ∷ xs) zero v w h = refl
both_of_suc (x ∷ xs) (suc i) v w h = ap (λ zs. x ∷ zs) (both_of_suc xs i v w (omega arith))

module _ {A : Type 0} (xs : List A) (i : ℕ) (within : i + 1 < length xs) where
  -- both stand behind those in front of them
  pub two_at : (d : A) → xs ≡ take i xs ++ get_or xs i d ∷ get_or xs (i + 1) d ∷ drop (suc (suc i)) xs
  two_at d = rw add-one (two_at_suc xs i d (omega arith))

  -- the right one is taken out, and the left one changed
  pub one_of_two : (v : A) → set (remove xs (i + 1)) i v ≡ take i xs ++ v ∷ drop (suc (suc i)) xs
  one_of_two v = rw add-one (one_of_suc xs i v (omega arith))

  -- and another one put in its place
  pub both_of_two : (v w : A) → insert (set (remove xs (i + 1)) i v) (i + 1) w ≡ take i xs ++ v ∷ w ∷ drop (suc (suc i)) xs
  both_of_two v w = rw add-one (both_of_suc xs i v w (omega arith))

pub all_of_one : {A : Type 0} (P : A → Type 0) (xs : List A) (i : ℕ) (v : A) → All P xs → P v → All P (take i xs ++ v ∷ drop (suc (suc i)) xs)
all_of_one P xs i v all h = All-append P (take i xs) (v ∷ drop (suc (suc i)) xs) (All-take P i xs all) (All-cons P v (drop (suc (suc i)) xs) h (All-drop P (suc (suc i)) xs all))

pub all_of_two : {A : Type 0} (P : A → Type 0) (xs : List A) (i : ℕ) (v w : A) → All P xs → P v → P w → All P (take i xs ++ v ∷ w ∷ drop (suc (suc i)) xs)
all_of_two P xs i v w all h k =
    All-append P (take i xs) (v ∷ w ∷ drop (suc (suc i)) xs) (All-take P i xs all)
    (All-cons P v (w ∷ drop (suc (suc i)) xs) h (All-cons P w (drop (suc (suc i)) xs) k (All-drop P (suc (suc i)) xs all)))
