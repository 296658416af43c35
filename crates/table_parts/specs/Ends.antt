-- The last of rows with their numbers.
use Rattle.std.specs.Prelude.{ℤ, List, [], ◌∷◌, Option, Some, None}

-- the number of the last row
abbrev pub last_or : {A : Type 0} → ℤ → List (ℤ × A) → ℤ
last_or n [] = n
last_or n (r ∷ rs) = last_or r.0 rs

abbrev pub last_of : {A : Type 0} → List (ℤ × A) → Option ℤ
last_of [] = None
last_of (r ∷ rs) = Some (last_or r.0 rs)
