-- Names that are the same, either way round.
use Rattle.std.proofs.Common.{◌≡◌, ℕ, nat_eq, Bool, true, false, ◌&&◌, List, [], ◌∷◌, refl, sym, ap, ◌∙◌}
use Rattle.std.proofs.lemmas.Bool.{eqb-true, eq-eqb}
use Rattle.meaning.specs.SmallStep.{same_name}

both_ways : (x y : Bool) → (x ≡ true → y ≡ true) → (y ≡ true → x ≡ true) → x ≡ y
both_ways true y f g = sym (f refl)
both_ways false true f g = g refl
both_ways false false f g = refl

nat_swap : (a b : ℕ) → nat_eq a b ≡ nat_eq b a
nat_swap a b = both_ways (nat_eq a b) (nat_eq b a) (λ h. eq-eqb b a (sym (eqb-true a b h))) (λ h. eq-eqb a b (sym (eqb-true b a h)))

pub same_swap : (xs ys : List ℕ) → same_name xs ys ≡ same_name ys xs
same_swap [] [] = refl
same_swap [] (y ∷ ys) = refl
same_swap (x ∷ xs) [] = refl
same_swap (x ∷ xs) (y ∷ ys) = ap (λ b. b && same_name xs ys) (nat_swap x y) ∙ ap (λ b. nat_eq y x && b) (same_swap xs ys)
