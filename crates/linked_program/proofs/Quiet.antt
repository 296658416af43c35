-- What it says that there are no violations.
use Rattle.std.proofs.Common.{◌≡◌, ℕ, Bool, true, false, List, [], ◌∷◌, ◌++◌, refl}
use Rattle.linked_program.specs.declared.violation.Rule.{Rule}
use Rattle.linked_program.specs.Violations.{at, when}

pub nil_left : {A : Type 0} (xs ys : List A) → xs ++ ys ≡ [] → xs ≡ []
nil_left [] ys e = refl
nil_left (x ∷ xs) ys e = cc

pub nil_right : {A : Type 0} (xs ys : List A) → xs ++ ys ≡ [] → ys ≡ []
nil_right [] ys e = e
nil_right (x ∷ xs) ys e = cc

pub no_rules : (declaration line : ℕ) (rules : List Rule) → at declaration line rules ≡ [] → rules ≡ []
no_rules declaration line [] e = refl
no_rules declaration line (r ∷ rules) e = cc

pub no_when : (b : Bool) (rule : Rule) → when b rule ≡ [] → b ≡ false
no_when true rule e = cc
no_when false rule e = refl
