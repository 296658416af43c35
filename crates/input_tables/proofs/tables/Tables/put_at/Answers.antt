use Rattle.std.proofs.Common.{Ok, refl, ap, sym, subst, ◌∙◌, w64}
use Rattle.std.specs.Prelude.{IsOk}
use Rattle.std.proofs.lemmas.Int.{to_z-of_z}
use Rattle.std.proofs.lemmas.Result.{err_from_is_err_and}
use Rattle.meaning.specs.Edits.{put_in}
use Rattle.input_tables.specs.Edited.{beside, row_into}
use Rattle.input_tables.proofs.Accepted.{edited_by_number}
use Rattle.input_tables.proofs.Numbered.{table_of-number}
use Rattle.input_tables.proofs.tables.Tables.put_at.Goals as goal

pub returns-in_ok-put_row-in-Ok-clause-put : goal.returns-in_ok-put_row-in-Ok-clause-put
returns-in_ok-put_row-in-Ok-clause-put c = λ t place program lines.
    let old = c.args.self.now in
    let vs = c.args.values.now in
    let allowed = rw (to_z-of_z w64 _ c.ranges.row) at (c.in-Ok.ensures.allowed t program lines vs refl) in
    let tables = rw (to_z-of_z w64 _ c.ranges.row) at c.in_ok-put_row-in-Ok.ensures.tables in
    sym (ap (put_in (beside program lines old) t c.args.row vs) (table_of-number old.tables t c.args.number place)) ∙ allowed
    ∙ ap Ok (edited_by_number program lines (row_into c.args.row vs) old c.put_row.new.self t c.args.number place tables c.in_ok-put_row-in-Ok.ensures.edits)

pub returns-in_err-put_row-in-Ok-clause-refused : goal.returns-in_err-put_row-in-Ok-clause-refused
returns-in_err-put_row-in-Ok-clause-refused c =
    let old = c.args.self.now in
    let vs = c.args.values.now in
    let p = err_from_is_err_and c.from_residual.result c.from_residual.ensures.1 in
    rw (p.1, p.2) (λ t place program lines.
    let allowed = rw (to_z-of_z w64 _ c.ranges.row) at (c.in-Ok.ensures.allowed t program lines vs refl) in
    subst IsOk (ap (put_in (beside program lines old) t c.args.row vs) (table_of-number old.tables t c.args.number place)) (subst IsOk (sym allowed) refl))

pub returns-in-Err-clause-refused : goal.returns-in-Err-clause-refused
returns-in-Err-clause-refused c = λ t place program lines.
    let old = c.args.self.now in
    let vs = c.args.values.now in
    sym (ap (put_in (beside program lines old) t c.args.row vs) (table_of-number old.tables t c.args.number place))
    ∙ rw (to_z-of_z w64 _ c.ranges.row) at (c.in-Err.ensures.refused t program lines vs refl)
