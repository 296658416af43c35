-- The totals of a table's columns, each wrapped to 64 bits, and what a row that is taken out makes of them.
use Rattle.std.specs.Prelude.{◌≡◌, ℕ, ℤ, List, Option, Some, None, slice_get}
use Rattle.std.specs.Int.{w64, int_wrap}
use Rattle.meaning.specs.Tables.{amount_in, column_total}
use Rattle.table_parts.specs.Sums.{taken}
use Rattle.input_tables.specs.Rows.{Row}

-- the sums without a row, and as they are where the row isn't there
abbrev pub without_row : Option (List ℤ) → List ℤ → List ℤ
without_row None ss = ss
without_row (Some vs) ss = taken ss vs

-- these are the totals of all columns, and 0 of a column that isn't there
abbrev pub AreTotals : List ℤ → List Row → Type 0
AreTotals ss rows = (c : ℕ) → amount_in (slice_get ss c) ≡ int_wrap w64 (column_total c rows)
