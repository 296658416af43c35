use Rattle.std.proofs.Common.{rules, ◌≡◌, ◌∙◌, true, Some, refl, ap, sym, w64, FitsSigned, to_z, of_z}
use Rattle.std.proofs.lemmas.Int.{to_z-of_z}
use Rattle.std.proofs.lemmas.Option.{slice_get_read}
use Rattle.std.specs.Prelude.{slice_get}
use Rattle.meaning.specs.Tables.{row_of}
use Rattle.input_tables.specs.Edited.{rows_at}
use Rattle.evaluation.specs.Slots.{number_in}
use Rattle.evaluation.proofs.Rows.{are_noted}
use Rattle.evaluation.proofs.values.both_at_once.Goals as goal

pub returns-clause-found : goal.returns-clause-found
returns-clause-found c =
    let ts = c.args.tables.now.tables in
    let cells = c.args.cells.now in
    let vs = c.in_ok-values.values.now in
    let x = c.in_ok-left.field-0.now in
    let y = c.in_ok-right.field-0.now in
    let fits : FitsSigned w64 c.number_in-row.result = search rules in
    let number = to_z-of_z w64 c.number_in-row.result fits ∙ c.number_in-row.ensures in
    let row : row_of (rows_at ts cells.table) (number_in (slice_get c.args.slots.now cells.slot)) ≡ Some vs = rw number at c.in_ok-values.ensures.row in
    let left : slice_get vs cells.first ≡ Some x = slice_get_read vs _ cells.first x refl c.in_ok-left.ensures.lookup.3.0 c.in_ok-left.ensures.lookup.1 in
    let right : slice_get vs cells.second ≡ Some y = slice_get_read vs _ cells.second y refl c.in_ok-right.ensures.lookup.3.0 c.in_ok-right.ensures.lookup.1 in
    let fits_left : FitsSigned w64 x = search rules in
    let fits_right : FitsSigned w64 y = search rules in
    let added : c.add_both.result ≡ true = search rules in
    are_noted ts c.args.slots.now cells vs (to_z w64 (of_z w64 x)) (to_z w64 (of_z w64 y)) c.args.notes.now c.add_both.new.self
    row (left ∙ ap Some (sym (to_z-of_z w64 x fits_left))) (right ∙ ap Some (sym (to_z-of_z w64 y fits_right))) (rw number at (c.add_both.ensures.added added))
