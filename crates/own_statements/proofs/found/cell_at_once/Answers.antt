use Rattle.std.proofs.Common.{rules, ◌≡◌, ◌∙◌, Ok, Some, ap, refl, sym, w64, FitsSigned}
use Rattle.std.proofs.lemmas.Int.{to_z-of_z}
use Rattle.std.proofs.lemmas.Option.{slice_get_read}
use Rattle.std.specs.Prelude.{slice_get}
use Rattle.meaning.specs.Tables.{row_of}
use Rattle.input_tables.specs.Edited.{rows_at}
use Rattle.evaluation.specs.Slots.{number_in}
use Rattle.own_statements.proofs.AtOnce.{value_of_cell}
use Rattle.own_statements.proofs.found.cell_at_once.Goals as goal

pub returns : goal.returns
returns c =
    let ts = c.args.tables.now.tables in
    let vs = c.in_ok-values.values.now in
    let x = c.in_ok-value.value.now in
    let fits : FitsSigned w64 c.number_in.result = search rules in
    let number = to_z-of_z w64 c.number_in.result fits ∙ c.number_in.ensures in
    let row : row_of (rows_at ts c.args.table) (number_in (slice_get c.args.slots.now c.args.slot)) ≡ Some vs = rw number at c.in_ok-values.ensures.row in
    let there : slice_get vs c.args.column ≡ Some x = slice_get_read vs _ c.args.column x refl c.in_ok-value.ensures.lookup.3.0 c.in_ok-value.ensures.lookup.1 in
    let fits_cell : FitsSigned w64 x = search rules in
    record { value = value_of_cell ts c.args.slots.now c.args.table c.args.slot c.args.column vs x row there ∙ ap Ok (sym (to_z-of_z w64 x fits_cell)) }
