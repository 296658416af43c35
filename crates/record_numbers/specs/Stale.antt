-- The number of a record's readings that the tables don't hold, in four bytes.
use Rattle.std.specs.Prelude.{◌+◌, ◌-◌, ℕ, zero, suc, nat_eq, cond, List, [], ◌∷◌, min}

-- the greatest number in four bytes, which says that there are as many or more
abbrev pub most_number : ℕ
most_number = 4294967295

-- a number of which so many more don't hold, and so many hold again
abbrev pub number_by : ℕ → ℕ → ℕ → ℕ
number_by number gone back = cond (nat_eq number most_number) most_number (min most_number ((number + gone) - back))

-- the number of the record at that place, or of one behind the others, is 0
abbrev pub cleared : List ℕ → ℕ → List ℕ
cleared [] place = 0 ∷ []
cleared (n ∷ ns) zero = 0 ∷ ns
cleared (n ∷ ns) (suc place) = n ∷ cleared ns place
