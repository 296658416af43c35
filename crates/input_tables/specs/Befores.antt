-- A row and its table's totals as they were at one time.
use Rattle.std.specs.Prelude.{ℕ, zero, suc, ℤ, pos, List, [], ◌∷◌, Option, None}

-- a row of a table, given by the table's number: its values where it is there, the table's limit, and the sums of its columns
pub record PlainBefore : Type 0 where
  pub table : ℕ
  pub row : ℤ
  pub values : Option (List ℤ)
  pub limit : ℤ
  pub sums : List ℤ

-- no row yet
abbrev pub no_row : PlainBefore
no_row = record { table = 0; row = pos 0; values = None; limit = pos 0; sums = [] }

-- the sum of a column, 0 where there is none
abbrev pub total_at : List ℤ → ℕ → ℤ
total_at [] c = pos 0
total_at (v ∷ vs) zero = v
total_at (v ∷ vs) (suc c) = total_at vs c

-- a row as it was, and room for rows of so many columns
pub record PlainNoted : Type 0 where
  pub was : PlainBefore
  pub room : ℕ
