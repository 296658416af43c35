use Rattle.std.proofs.Common.{◌≡◌, drop}
use Rattle.meaning.specs.Tables.{row_of}
use Rattle.serial_oracle.specs.Listing.{rows_plain}
use Rattle.serial_oracle.proofs.lookup.row_values.Given as goal

abbrev pub invariant-loop-row : goal.invariant-loop-row
invariant-loop-row l = row_of (rows_plain l.rows) l.number ≡ row_of (rows_plain (drop l.row-index l.rows)) l.number
