use Rattle.std.proofs.Common.{Ok, ap, sym, ◌∙◌, w64}
use Rattle.std.proofs.lemmas.Int.{to_z-of_z}
use Rattle.meaning.specs.Edits.{delete_in}
use Rattle.input_tables.specs.Edited.{beside, row_out_of}
use Rattle.input_tables.proofs.Accepted.{edited_by_number}
use Rattle.input_tables.proofs.Numbered.{table_of-number}
use Rattle.input_tables.proofs.tables.Tables.delete_at.Goals as goal

pub returns-in-Ok-clause-deleted : goal.returns-in-Ok-clause-deleted
returns-in-Ok-clause-deleted c = λ t place program lines.
    let old = c.args.self.now in
    let allowed = rw (to_z-of_z w64 _ c.ranges.row) at (c.in-Ok.ensures.allowed t program lines) in
    let tables = rw (to_z-of_z w64 _ c.ranges.row) at c.take_row.ensures.tables in
    sym (ap (delete_in (beside program lines old) t c.args.row) (table_of-number old.tables t c.args.number place)) ∙ allowed
    ∙ ap Ok (edited_by_number program lines (row_out_of c.args.row) old c.take_row.new.self t c.args.number place tables c.take_row.ensures.edits)

pub returns-in-Err-clause-refused : goal.returns-in-Err-clause-refused
returns-in-Err-clause-refused c = λ t place program lines.
    let old = c.args.self.now in
    sym (ap (delete_in (beside program lines old) t c.args.row) (table_of-number old.tables t c.args.number place))
    ∙ rw (to_z-of_z w64 _ c.ranges.row) at (c.in-Err.ensures.refused t program lines)
