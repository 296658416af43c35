-- Which count a text asks for.
use Rattle.std.specs.Prelude.{◌≡◌, ◌≤◌, ℕ, List, Option, Some, None}
use Rattle.std.specs.Str.Parse.{IsNumeral, digits_value, without_leading_plus}

-- n is asked for: the first number where nothing is said, else one of 1 to the second
abbrev pub AsksFor : ℕ → ℕ → Option (List ℕ) → ℕ → Type 0
AsksFor unsaid most None n = n ≡ unsaid
AsksFor unsaid most (Some text) n = IsNumeral 10 (without_leading_plus text) × (digits_value 10 (without_leading_plus text) ≡ n) × (1 ≤ n) × (n ≤ most)
