use Rattle.std.proofs.Common.{◌≡◌, Some, ap, sym, ◌∙◌, w64}
use Rattle.std.proofs.lemmas.Int.{to_z-of_z}
use Rattle.meaning.specs.Tables.{row_of, at_column}
use Rattle.input_tables.specs.Edited.{rows_at, cell_at}
use Rattle.input_tables.proofs.Numbered.{cell_at-named}
use Rattle.input_tables.proofs.tables.Tables.cell.Goals as goal

pub returns-in-Some-clause-named : goal.returns-in-Some-clause-named
returns-in-Some-clause-named c = λ t n e f.
    let ts = c.args.self.now.tables in
    let row : row_of (rows_at ts c.args.table) c.args.row ≡ Some c.in-Some.values.now = rw (to_z-of_z w64 _ c.ranges.row) at c.in-Some.ensures.row in
    let numbered : c.value_in.result ≡ cell_at ts c.args.table c.args.row c.args.column = c.value_in.ensures ∙ ap (λ o. at_column o c.args.column) (sym row) in
    rw (← cell_at-named ts c.args.table c.args.row c.args.column t n e f) numbered

pub returns-in-None-clause-named : goal.returns-in-None-clause-named
returns-in-None-clause-named c = λ t n e f.
    let ts = c.args.self.now.tables in
    let numbered : c.look_up.result ≡ cell_at ts c.args.table c.args.row c.args.column = rw (to_z-of_z w64 _ c.ranges.row) at c.look_up.ensures in
    rw (← cell_at-named ts c.args.table c.args.row c.args.column t n e f) numbered
