use Rattle.std.proofs.Common.{◌≡◌, Some, None, sym, w64, FitsSigned, rules}
use Rattle.std.proofs.lemmas.Int.{to_z-of_z}
use Rattle.std.specs.Prelude.{slice_get}
use Rattle.input_tables.proofs.Numbered.{rows_at-there, rows_at-absent, sum_at-named}
use Rattle.input_tables.proofs.Totals.{none_fits}
use Rattle.input_tables.proofs.tables.Tables.sum.Goals as goal

pub returns-in-Some-clause-numbered : goal.returns-in-Some-clause-numbered
returns-in-Some-clause-numbered c =
    let there : slice_get c.args.self.now.tables c.args.table ≡ Some c.in-Some.table.now = sym (rw c.in-Some.is at c.at.ensures) in
    let fits : FitsSigned w64 c.sum.result = search rules in
    rw (to_z-of_z w64 _ fits, rows_at-there c.args.self.now.tables c.args.table c.in-Some.table.now there) c.sum.ensures

pub returns-in-Some-clause-named : goal.returns-in-Some-clause-named
returns-in-Some-clause-named c = λ t n e f.
    let there : slice_get c.args.self.now.tables c.args.table ≡ Some c.in-Some.table.now = sym (rw c.in-Some.is at c.at.ensures) in
    let fits : FitsSigned w64 c.sum.result = search rules in
    rw (to_z-of_z w64 _ fits, ← sum_at-named c.args.self.now.tables c.args.table c.args.column t n e f, rows_at-there c.args.self.now.tables c.args.table c.in-Some.table.now there) c.sum.ensures

pub returns-in-None-clause-numbered : goal.returns-in-None-clause-numbered
returns-in-None-clause-numbered c =
    let absent : slice_get c.args.self.now.tables c.args.table ≡ None = sym (rw c.in-None.is at c.at.ensures) in
    rw (rows_at-absent c.args.self.now.tables c.args.table absent) none_fits

pub returns-in-None-clause-named : goal.returns-in-None-clause-named
returns-in-None-clause-named c = λ t n e f.
    let absent : slice_get c.args.self.now.tables c.args.table ≡ None = sym (rw c.in-None.is at c.at.ensures) in
    rw (← sum_at-named c.args.self.now.tables c.args.table c.args.column t n e f, rows_at-absent c.args.self.now.tables c.args.table absent) none_fits
