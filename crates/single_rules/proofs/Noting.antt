-- The first violation of lists joined.
use Rattle.std.proofs.Common.{◌≡◌, ℕ, List, [], ◌∷◌, ◌++◌, Option, Some, refl}
use Rattle.linked_program.specs.declared.violation.Rule.{Rule}
use Rattle.linked_program.specs.declared.violation.Violation.{Violation}
use Rattle.linked_program.specs.Violations.{noted, at, earlier}

pub noted_append : (first : Option Violation) (vs ws : List Violation) → noted first (vs ++ ws) ≡ noted (noted first vs) ws
noted_append first [] ws = refl
noted_append first (v ∷ vs) ws = noted_append (Some (earlier first v)) vs ws

-- one rule after another at one place
pub noted_more : (declaration line : ℕ) (first : Option Violation) (rules more : List Rule) → noted first (at declaration line (rules ++ more)) ≡ noted (noted first (at declaration line rules)) (at declaration line more)
noted_more declaration line first [] more = refl
noted_more declaration line first (r ∷ rules) more = noted_more declaration line (Some (earlier first (record { declaration = declaration; line = line; rule = r }))) rules more
