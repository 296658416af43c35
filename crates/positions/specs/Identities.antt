-- Pieces of which each is empty.
use Rattle.std.specs.Prelude.{Bool, true, false, ◌&&◌, List, [], ◌∷◌}

abbrev pub is_nil : {A : Type 0} → List A → Bool
is_nil [] = true
is_nil (x ∷ xs) = false

abbrev pub are_nil : {A : Type 0} → List (List A) → Bool
are_nil [] = true
are_nil (p ∷ ps) = is_nil p && are_nil ps
