-- One number that stands for several.
use Rattle.std.specs.Prelude.{ℕ, ◌+◌, ◌-◌, ◌*◌, ◌/◌, ◌%◌, ◌^◌, ℤ, List, [], ◌∷◌}
use Rattle.std.specs.Int.{w64, cast_unsigned}

-- by what each sum is multiplied
abbrev pub factor : ℕ
factor = 11400714819323198485

-- one more added
abbrev pub added : ℕ → ℤ → ℕ
added sum other = (sum + cast_unsigned w64 other) % 2 ^ 64

-- one more integer mixed in
abbrev pub mixed : ℕ → ℤ → ℕ
mixed sum other = (added sum other * factor) % 2 ^ 64

abbrev pub all_mixed : ℕ → List ℤ → ℕ
all_mixed sum [] = sum
all_mixed sum (z ∷ zs) = all_mixed (mixed sum z) zs

-- a number but for its last digit of sixteen, and that so much further on
abbrev pub turned : ℕ → ℕ → ℕ
turned number by = number - number % 16 + (number % 16 + by % 16) % 16

-- so much more, and all of it mixed
abbrev pub spread : ℕ → ℕ → ℕ
spread sum more = (sum + more) % 2 ^ 64 * factor % 2 ^ 64

-- the last one: all but its last digit of sixteen is mixed in, and the upper half of that is turned by the digit
abbrev pub last_mixed : ℕ → ℤ → ℕ
last_mixed sum other = turned (spread sum (added 0 other / 16) / 4294967296) (added 0 other)

abbrev pub number_in : ℕ → List ℤ → ℕ
number_in sum [] = sum / 4294967296
number_in sum (z ∷ []) = last_mixed sum z
number_in sum (z ∷ y ∷ zs) = number_in (mixed sum z) (y ∷ zs)

-- all of them mixed: those that differ by the last digit of the last one alone have numbers side by side
unfoldable pub number_of : ℕ → List ℤ → ℕ
number_of first others = number_in ((first * factor) % 2 ^ 64) others
