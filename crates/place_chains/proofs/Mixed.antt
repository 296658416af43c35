-- The number that several come to, by the last of them.
use Rattle.std.proofs.Common.{arith, ◌≡◌, ℕ, ◌/◌, ℤ, List, [], ◌∷◌, ◌++◌, length, refl, sym, ap, ◌∙◌}
use Rattle.place_chains.specs.Mixing.{mixed, all_mixed, last_mixed, number_in}

behind : (sum : ℕ) (front : List ℤ) (last : ℤ) → last_mixed (all_mixed sum front) last ≡ number_in sum (front ++ last ∷ [])
behind sum [] last = refl
behind sum (z ∷ []) last = refl
behind sum (z ∷ y ∷ front) last = behind (mixed sum z) (y ∷ front) last

pub by_last : (sum : ℕ) (others front : List ℤ) (last : ℤ) → others ≡ front ++ last ∷ [] → last_mixed (all_mixed sum front) last ≡ number_in sum others
by_last sum others front last e = behind sum front last ∙ sym (ap (number_in sum) e)

pub of_none : (sum : ℕ) (others : List ℤ) → length others ≡ 0 → sum / 4294967296 ≡ number_in sum others
of_none sum [] h = refl
of_none sum (z ∷ zs) h = absurd (omega (arith, h))
