-- Whose layer is the topmost open one.
use Rattle.std.proofs.Common.{◌≡◌, ◌<◌, ℕ, false, List, [], ◌∷◌, Some, None, refl, subst, arith}
use Rattle.std.proofs.lemmas.Bool.Decides.{nat_tests}
use Rattle.positions.specs.Tallies.{PlainOpened, is_own}
use Rattle.layers.specs.Owners.{owner_of}

pub below_owner : (os : List PlainOpened) (d n : ℕ) → Some d ≡ owner_of os → d < n → is_own os n ≡ false
below_owner [] d n e less = refl
below_owner (o ∷ os) d n e less =
    let same : d ≡ o.depth = cc in
    let longer : o.depth < n = subst (λ k. k < n) same less in
    grind (arith, nat_tests, longer)

pub none_owned : (os : List PlainOpened) (n : ℕ) → None ≡ owner_of os → is_own os n ≡ false
none_owned [] n e = refl
none_owned (o ∷ os) n e = absurd cc
