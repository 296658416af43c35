use Rattle.std.proofs.Common.{◌≡◌, Some, sym, w64}
use Rattle.std.proofs.lemmas.Int.{to_z-of_z}
use Rattle.std.specs.Prelude.{slice_get}
use Rattle.input_tables.proofs.Numbered.{rows_at-there}
use Rattle.input_tables.proofs.tables.Tables.row_at_once.Goals as goal

pub returns-in-Some : goal.returns-in-Some
returns-in-Some c =
    let there : slice_get c.args.self.now.tables c.args.table ≡ Some c.in-Some.table.now = sym (rw c.in-Some.is at c.at.ensures) in
    record { row = rw (rows_at-there c.args.self.now.tables c.args.table c.in-Some.table.now there) (rw (to_z-of_z w64 _ c.ranges.row) at c.row_at_once.ensures) }
