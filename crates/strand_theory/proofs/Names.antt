-- Names by comparison.
use Rattle.std.proofs.Common.{[], ◌∷◌, ◌≡◌, refl, ap₂, true, false, Bool, ◌&&◌, ◌||◌, nat_eq, eqb-true}
use Rattle.meaning.specs.Outcome.{Place}
use Rattle.meaning.specs.SmallStep.{same_name}

pub both_are : (a b : Bool) → a && b ≡ true → (a ≡ true) × (b ≡ true)
both_are true b e = (refl, e)
both_are false b e = absurd cc

pub or_right : (a b : Bool) → b ≡ true → a || b ≡ true
or_right true b e = refl
or_right false b e = e

pub or_left : (a b : Bool) → a ≡ true → a || b ≡ true
or_left true b e = refl
or_left false b e = absurd cc

pub both_true : (a b : Bool) → a ≡ true → b ≡ true → a && b ≡ true
both_true true b e f = f
both_true false b e f = absurd cc

pub same_name_true : (a b : Place) → same_name a b ≡ true → a ≡ b
same_name_true [] [] e = refl
same_name_true [] (y ∷ b) e = cc
same_name_true (x ∷ a) [] e = cc
same_name_true (x ∷ a) (y ∷ b) e =
    let h = both_are (nat_eq x y) (same_name a b) e in
    ap₂ ◌∷◌ (eqb-true x y h.0) (same_name_true a b h.1)
