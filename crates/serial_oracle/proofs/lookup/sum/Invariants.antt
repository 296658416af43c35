use Rattle.std.proofs.Common.{◌≡◌, drop}
use Rattle.std.specs.Prelude.{◌+ℤ◌}
use Rattle.std.specs.Int.{w64, int_wrap}
use Rattle.meaning.specs.Tables.{column_total, sum_of}
use Rattle.serial_oracle.specs.Listing.{rows_plain, tables_plain}
use Rattle.serial_oracle.proofs.lookup.sum.Given as goal

abbrev pub invariant-loop-row : goal.invariant-loop-row
invariant-loop-row l = sum_of (tables_plain l.tables) l.table l.wanted ≡ int_wrap w64 (l.total +ℤ column_total l.place (rows_plain (drop l.row-index l.row-items)))
