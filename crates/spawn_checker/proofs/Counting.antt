-- That nothing is violated.
use Rattle.std.proofs.Common.{◌≡◌, List, [], ◌∷◌, Some, None, refl}
use Rattle.linked_program.specs.declared.violation.Violation.{Violation}
use Rattle.linked_program.specs.Violations.{noted, earlier, first_of}

none_first : (v : Violation) (vs : List Violation) → noted (Some v) vs ≡ None → ⊥
none_first v [] e = cc
none_first v (w ∷ vs) e = none_first (earlier (Some v) w) vs e

pub nothing_violated : (vs : List Violation) → first_of vs ≡ None → vs ≡ []
nothing_violated [] e = refl
nothing_violated (v ∷ vs) e = absurd (none_first v vs e)
