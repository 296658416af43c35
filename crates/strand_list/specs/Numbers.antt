-- A number for a place.
use Rattle.std.specs.Prelude.{ℕ, ◌+◌, ◌*◌, ◌/◌, ◌%◌, ◌^◌, List, [], ◌∷◌}
use Rattle.meaning.specs.Outcome.{Place}

-- by what each sum is multiplied
abbrev pub factor : ℕ
factor = 11400714819323198485

-- one more number mixed in
abbrev pub mixed : ℕ → ℕ → ℕ
mixed sum other = ((sum + other) % 2 ^ 64 * factor) % 2 ^ 64

abbrev pub all_mixed : ℕ → Place → ℕ
all_mixed sum [] = sum
all_mixed sum (n ∷ ns) = all_mixed (mixed sum n) ns

-- the upper half of all mixed
unfoldable pub number_of : Place → ℕ
number_of place = all_mixed 1 place / 4294967296
