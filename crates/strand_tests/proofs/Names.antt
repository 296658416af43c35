-- A name is longer by one.
use Rattle.std.proofs.Common.{◌≡◌, ℕ, zero, suc, [], ◌∷◌, ◌++◌, refl, ap, arith}
use Rattle.stealing_deques.specs.Order.{GoesOn}
use Rattle.strand_tests.specs.Names.{name}

longer : (n : ℕ) → name (suc n) ≡ name n ++ 0 ∷ []
longer zero = refl
longer (suc n) = ap (λ l. 0 ∷ l) (longer n)

pub goes_on : (n : ℕ) → GoesOn (name n) (name (suc n))
goes_on n = (0 ∷ [], longer n, omega arith)
