-- What was read of a row and of its table's totals that holds at one time and not at another.
use Rattle.std.specs.Prelude.{◌<◌, ℕ, zero, suc, ℤ, Bool, cond, List, [], ◌∷◌, ◌++◌, length, Option, Some, None}
use Rattle.std.specs.Ordering.{int_eq}
use Rattle.meaning.specs.Tables.{Tables, row_of, at_column, is_there}
use Rattle.meaning.specs.Records.{same_number}
use Rattle.input_tables.specs.Befores.{PlainBefore, total_at}
use Rattle.input_tables.specs.Edited.{rows_at, columns_at, limit_at, sum_at}
use Rattle.evaluation.specs.declared.note.Note.{Note}
use Rattle.evaluation.specs.declared.note.Note.TheVariants.{Cell, Has, Limit, Sum}
use Rattle.record_theory.specs.Same.{same_flag}

-- the sums of so many columns from one on
abbrev pub sums_from : Tables → ℕ → ℕ → ℕ → List ℤ
sums_from tables t c zero = []
sums_from tables t c (suc k) = sum_at tables t c ∷ sums_from tables t (suc c) k

-- what the tables have of the row, with the sums of so many columns
abbrev pub before_of : Tables → ℕ → ℤ → ℕ → PlainBefore
before_of tables t row k = record { table = t; row = row; values = row_of (rows_at tables t) row; limit = limit_at tables t; sums = sums_from tables t 0 k }

-- what they have of the row that was noted
abbrev pub now_of : Tables → PlainBefore → PlainBefore
now_of tables b = before_of tables b.table b.row (length b.sums)

-- ---- what is read of the one and not of the other

module _ (t : ℕ) (row : ℤ) where
  -- the values of the first, from that column on, that the other row doesn't have there
  abbrev pub cells_only : ℕ → List ℤ → Option (List ℤ) → List Note
  cells_only c [] other = []
  cells_only c (v ∷ vs) other = cond (same_number (at_column other c) v) (cells_only (suc c) vs other) (Cell t row c v ∷ cells_only (suc c) vs other)

  abbrev pub row_only : Option (List ℤ) → Option (List ℤ) → List Note
  row_only None other = []
  row_only (Some vs) other = cells_only 0 vs other

  abbrev pub presence_only : Bool → Bool → List Note
  presence_only a b = cond (same_flag a b) [] (Has t row a ∷ [])

abbrev pub limit_only : ℕ → ℤ → ℤ → List Note
limit_only t a b = cond (int_eq a b) [] (Limit t a ∷ [])

abbrev pub sums_only : ℕ → ℕ → List ℤ → List ℤ → List Note
sums_only t c [] others = []
sums_only t c (v ∷ vs) others = cond (int_eq v (total_at others c)) (sums_only t (suc c) vs others) (Sum t c v ∷ sums_only t (suc c) vs others)

-- the readings that hold by the first and not by the second
abbrev pub held_only : PlainBefore → PlainBefore → List Note
held_only a b =
    row_only a.table a.row a.values b.values
    ++ (presence_only a.table a.row (is_there a.values) (is_there b.values)
    ++ (limit_only a.table a.limit b.limit ++ sums_only a.table 0 a.sums b.sums))

-- ---- kept with room

-- room for rows of fewer columns than that, and the readings of a row that held before an edit and not behind it, and the other way
pub record PlainChanges : Type 0 where
  pub room : ℕ
  pub lost : List Note
  pub won : List Note

-- there is room for the rows of each table
abbrev pub HasRoomFor : Tables → ℕ → Type 0
HasRoomFor tables room = (t : ℕ) → length (columns_at tables t) < room
