use Rattle.std.proofs.Common.{◌≡◌, Some, None, refl, sym}
use Rattle.std.specs.Prelude.{slice_get}
use Rattle.input_tables.proofs.Numbered.{rows_at-there, rows_at-absent, columns_at-there, columns_at-absent}
use Rattle.input_tables.proofs.tables.Tables.width.Goals as goal

pub returns-in-Some-clause-columns : goal.returns-in-Some-clause-columns
returns-in-Some-clause-columns c =
    let there : slice_get c.args.self.now.tables c.args.table ≡ Some c.in-Some.table.now = sym (rw c.in-Some.is at c.at.ensures) in
    rw (columns_at-there c.args.self.now.tables c.args.table c.in-Some.table.now there) c.width.ensures.columns

pub returns-in-Some-clause-rows : goal.returns-in-Some-clause-rows
returns-in-Some-clause-rows c =
    let there : slice_get c.args.self.now.tables c.args.table ≡ Some c.in-Some.table.now = sym (rw c.in-Some.is at c.at.ensures) in
    rw (rows_at-there c.args.self.now.tables c.args.table c.in-Some.table.now there) c.width.ensures.rows

pub returns-in-None-clause-columns : goal.returns-in-None-clause-columns
returns-in-None-clause-columns c =
    let absent : slice_get c.args.self.now.tables c.args.table ≡ None = sym (rw c.in-None.is at c.at.ensures) in
    rw (columns_at-absent c.args.self.now.tables c.args.table absent) refl

pub returns-in-None-clause-rows : goal.returns-in-None-clause-rows
returns-in-None-clause-rows c =
    let absent : slice_get c.args.self.now.tables c.args.table ≡ None = sym (rw c.in-None.is at c.at.ensures) in
    rw (rows_at-absent c.args.self.now.tables c.args.table absent) tt
