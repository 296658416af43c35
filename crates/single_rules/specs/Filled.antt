-- Lines by the numbers of their statements, where the first of a number counts.
use Rattle.std.specs.Prelude.{ℕ, Bool, true, false, cond, List, [], ◌∷◌, Option, Some, None, slice_get, slice_set, replicate, length}

abbrev pub is_free : Option (Option ℕ) → Bool
is_free (Some None) = true
is_free _ = false

abbrev pub with_line : List (Option ℕ) → ℕ → ℕ → List (Option ℕ)
with_line t n l = cond (is_free (slice_get t n)) (slice_set t n (Some l)) t

abbrev pub filled : List (Option ℕ) → List (ℕ × ℕ) → List (Option ℕ)
filled t [] = t
filled t (p ∷ ps) = filled (with_line t p.0 p.1) ps

-- the lines of the numbers below as many as there are statements
abbrev pub indexed : List (ℕ × ℕ) → List (Option ℕ)
indexed pairs = filled (replicate (length pairs) None) pairs
