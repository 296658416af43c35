use Rattle.std.proofs.Common.{◌≡◌}
use Rattle.meaning.specs.Tables.{columns_of}
use Rattle.serial_oracle.specs.Listing.{tables_plain}
use Rattle.serial_oracle.proofs.Searching.{columns_from}
use Rattle.serial_oracle.proofs.lookup.column.Given as goal

abbrev pub invariant-loop-table : goal.invariant-loop-table
invariant-loop-table l = columns_of (tables_plain l.tables) l.name ≡ columns_from l.tables l.name l.table-index
