use Rattle.std.proofs.Common.{◌≡◌, Some, None, refl, sym, w64}
use Rattle.std.proofs.lemmas.Int.{to_z-of_z}
use Rattle.std.specs.Prelude.{slice_get}
use Rattle.input_tables.proofs.Numbered.{rows_at-there, rows_at-absent}
use Rattle.input_tables.proofs.tables.Tables.row.Goals as goal

pub returns-in-Some : goal.returns-in-Some
returns-in-Some c =
    let there : slice_get c.args.self.now.tables c.args.table ≡ Some c.in-Some.table.now = sym (rw c.in-Some.is at c.at.ensures) in
    record { row = rw (rows_at-there c.args.self.now.tables c.args.table c.in-Some.table.now there) (rw (to_z-of_z w64 _ c.ranges.row) at c.row.ensures) }

pub returns-in-None : goal.returns-in-None
returns-in-None c =
    let absent : slice_get c.args.self.now.tables c.args.table ≡ None = sym (rw c.in-None.is at c.at.ensures) in
    record { row = rw (rows_at-absent c.args.self.now.tables c.args.table absent) refl }
