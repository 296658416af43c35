-- The rows of a table, and those of one page as they stand in its two lists.
use Rattle.std.specs.Prelude.{◌≡◌, ℕ, ℤ, List, [], ◌∷◌, ◌++◌, length, take, drop}
use Rattle.monoid_laws.specs.Kinds.{Fits}

-- one row: its number, and one value for each column
abbrev pub Row : Type 0
Row = ℤ × List ℤ

-- a number in a page's list of numbers, which holds nothing beside it
abbrev pub Numbered : Type 0
Numbered = ℤ × Unit {0}

-- the rows of these numbers whose cells stand one behind the other, so many for each row
abbrev pub rows_of : ℕ → List Numbered → List ℤ → List Row
rows_of w [] cs = []
rows_of w (e ∷ es) cs = (e.0, take w cs) ∷ rows_of w es (drop w cs)

-- the numbers of rows, and their cells one row behind the other
abbrev pub numbers_of : List Row → List Numbered
numbers_of [] = []
numbers_of (r ∷ rs) = (r.0, tt) ∷ numbers_of rs

abbrev pub cells_of : List Row → List ℤ
cells_of [] = []
cells_of (r ∷ rs) = r.1 ++ cells_of rs

-- each row has so many values
abbrev pub AreWide : ℕ → List Row → Type 0
AreWide w [] = Unit {0}
AreWide w (r ∷ rs) = (length r.1 ≡ w) × AreWide w rs

-- each value is a number of 64 bits
abbrev pub AreCells : List ℤ → Type 0
AreCells [] = Unit {0}
AreCells (v ∷ vs) = Fits v × AreCells vs
