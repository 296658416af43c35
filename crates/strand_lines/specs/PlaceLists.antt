-- Places in one list of numbers.
use Rattle.std.specs.Prelude.{ℕ, ◌+◌, List, [], ◌∷◌, take, drop}
use Rattle.meaning.specs.Outcome.{Place}

-- the places that have so many numbers each
abbrev pub cut : List ℕ → List ℕ → List Place
cut [] numbers = []
cut (n ∷ lengths) numbers = take n numbers ∷ cut lengths (drop n numbers)

-- how many numbers all of them have
abbrev pub total : List ℕ → ℕ
total [] = 0
total (n ∷ lengths) = n + total lengths
