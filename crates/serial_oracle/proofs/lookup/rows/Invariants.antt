use Rattle.std.proofs.Common.{◌≡◌}
use Rattle.meaning.specs.Tables.{rows_of}
use Rattle.serial_oracle.specs.Listing.{tables_plain}
use Rattle.serial_oracle.proofs.Searching.{rows_from}
use Rattle.serial_oracle.proofs.lookup.rows.Given as goal

abbrev pub invariant-loop-table : goal.invariant-loop-table
invariant-loop-table l = rows_of (tables_plain l.tables) l.name ≡ rows_from l.tables l.name l.table-index
