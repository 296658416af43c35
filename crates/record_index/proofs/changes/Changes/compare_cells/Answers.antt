use Rattle.std.proofs.Common.{arith, ◌≡◌, ◌<◌, sym, subst, length}
use Rattle.input_tables.specs.Edited.{rows_at}
use Rattle.input_tables.specs.Rows.{AreWide}
use Rattle.input_tables.proofs.Notes.{has_room}
use Rattle.record_index.specs.Befores.{PlainChanges}
use Rattle.record_index.proofs.RowSums.{few_was, few_now}
use Rattle.record_index.proofs.changes.Changes.compare_cells.Goals as goal

pub put_row-requires-2 : goal.put_row-requires-2
put_row-requires-2 c =
    let tables = c.args.tables.now.tables in
    let was = c.args.was.now.was in
    let wide : AreWide (length was.sums) (rows_at tables c.place-table.result.0) = subst (λ n. AreWide (length was.sums) (rows_at tables n)) (sym c.place-table.ensures.table) c.requires.wide in
    let room : length was.sums < c.self.inside.room = subst (λ (s : PlainChanges). length was.sums < s.room) (sym c.self.view_is) c.requires.room in
    record { room = has_room (length was.sums) _ (rows_at tables c.place-table.result.0) _ c.row-now.result wide (omega (arith, room, c.self.invariant.1)) c.row-now.ensures.row }

pub returns-clause-few : goal.returns-clause-few
returns-clause-few c = few_was _ _ c.values.result _ _ _ c.put_row.ensures.put c.values.ensures.few

pub returns-clause-few_won : goal.returns-clause-few_won
returns-clause-few_won c =
    let tables = c.args.tables.now.tables in
    let was = c.args.was.now.was in
    few_now _ _ _ (rows_at tables c.place-table.result.0) _ _ _ _ c.put_row-2.ensures.put c.row-now.ensures.row
    (subst (λ n. AreWide (length was.sums) (rows_at tables n)) (sym c.place-table.ensures.table) c.requires.wide)
