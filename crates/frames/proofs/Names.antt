-- The name of the first strand.
use Rattle.std.proofs.Common.{arith, ne_eqb, ◌≡◌, ℕ, ◌==◌, false, List, [], ◌∷◌, length, refl}
use Rattle.meaning.specs.SmallStep.{same_name}

longer : (n : ℕ) (name : List ℕ) → length (n ∷ name) ≡ 0 → ⊥
longer n name e = omega arith

pub root_is : (name : List ℕ) → (length name == 0) ≡ same_name [] name
root_is [] = refl
root_is (n ∷ name) = let other : (length (n ∷ name) == 0) ≡ false = ne_eqb (length (n ∷ name)) 0 (longer n name) in other
