-- What it is to be the first of violations.
use Rattle.std.specs.Prelude.{◌≡◌, false, List, [], ◌∷◌, Option, Some, None, ◌⊎◌}
use Rattle.linked_program.specs.declared.violation.Violation.{Violation}
use Rattle.linked_program.specs.Violations.{comes_before, first_of}

abbrev pub IsIn : Violation → List Violation → Type 0
IsIn v [] = ⊥
IsIn v (w ∷ ws) = (v ≡ w) ⊎ IsIn v ws

-- it is one of them, and none of them comes before it
pub record IsFirst (vs : List Violation) (v : Violation) : Type 0 where
  pub member : IsIn v vs
  pub least : (w : Violation) → IsIn w vs → comes_before w v ≡ false

abbrev pub IsFirstOf : List Violation → Option Violation → Type 0
IsFirstOf vs None = vs ≡ []
IsFirstOf vs (Some v) = IsFirst vs v

-- the first violation is one of them that none comes before; there is none only where nothing is violated
abbrev pub FirstIsLeast : List Violation → Type 0
FirstIsLeast vs = IsFirstOf vs (first_of vs)
