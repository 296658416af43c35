-- A number that is set to 0, or put behind the others.
use Rattle.std.proofs.Common.{◌≡◌, ℕ, zero, suc, ◌+◌, ◌≤◌, ◌<◌, List, [], ◌∷◌, ◌++◌, length, refl, ap, arith}
use Rattle.std.specs.Prelude.{slice_set}
use Rattle.record_numbers.specs.Stale.{cleared}

pub set_is_cleared : (ns : List ℕ) (place : ℕ) → place < length ns → slice_set ns place 0 ≡ cleared ns place
set_is_cleared [] place l = absurd (omega (arith, l))
set_is_cleared (m ∷ ms) zero l = refl
set_is_cleared (m ∷ ms) (suc place) l = ap (λ xs. m ∷ xs) (set_is_cleared ms place (omega (arith, l)))

pub push_is_cleared : (ns : List ℕ) (place : ℕ) → length ns ≤ place → ns ++ 0 ∷ [] ≡ cleared ns place
push_is_cleared [] place l = refl
push_is_cleared (m ∷ ms) zero l = absurd (omega (arith, l))
push_is_cleared (m ∷ ms) (suc place) l = ap (λ xs. m ∷ xs) (push_is_cleared ms place (omega (arith, l)))
