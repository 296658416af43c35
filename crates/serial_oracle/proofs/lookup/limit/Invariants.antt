use Rattle.std.proofs.Common.{◌≡◌, drop}
use Rattle.meaning.specs.Tables.{above_all, limit_of}
use Rattle.serial_oracle.specs.Listing.{rows_plain, tables_plain}
use Rattle.serial_oracle.proofs.lookup.limit.Given as goal

abbrev pub invariant-loop-row : goal.invariant-loop-row
invariant-loop-row l = limit_of (tables_plain l.tables) l.table ≡ above_all l.above (rows_plain (drop l.row-index l.row-items))
