use Rattle.std.proofs.Common.{rules, ◌≡◌, ◌∙◌, Some, ℤ, refl, subst, sym, w64, FitsSigned, to_z, of_z}
use Rattle.std.proofs.lemmas.Int.{to_z-of_z}
use Rattle.std.proofs.lemmas.Option.{slice_get_read}
use Rattle.std.specs.Prelude.{slice_get}
use Rattle.meaning.specs.Tables.{row_of}
use Rattle.input_tables.specs.Edited.{rows_at}
use Rattle.evaluation.specs.Slots.{number_in}
use Rattle.evaluation.proofs.Rows.{value_on_row}
use Rattle.own_statements.specs.Fills.{AreCells}
use Rattle.own_statements.proofs.found.two_at_once.Goals as goal

pub returns : goal.returns
returns c =
    let ts = c.args.tables.now.tables in
    let ss = c.args.slots.now in
    let cells = c.args.cells.now in
    let vs = c.in_ok-values.values.now in
    let x = c.in_ok-left.left.now in
    let y = c.in_ok-right.right.now in
    let fits : FitsSigned w64 c.number_in.result = search rules in
    let number = to_z-of_z w64 c.number_in.result fits ∙ c.number_in.ensures in
    let row : row_of (rows_at ts cells.table) (number_in (slice_get ss cells.slot)) ≡ Some vs = rw number at c.in_ok-values.ensures.row in
    let left : slice_get vs cells.first ≡ Some x = slice_get_read vs _ cells.first x refl c.in_ok-left.ensures.lookup.3.0 c.in_ok-left.ensures.lookup.1 in
    let right : slice_get vs cells.second ≡ Some y = slice_get_read vs _ cells.second y refl c.in_ok-right.ensures.lookup.3.0 c.in_ok-right.ensures.lookup.1 in
    let first : x ≡ to_z w64 (of_z w64 x) = search rules in
    let second : y ≡ to_z w64 (of_z w64 y) = search rules in
    let are : AreCells ts ss cells x y = λ op v is. value_on_row ts ss op cells vs x y v row left right is in
    record { cells = subst (λ (n : ℤ). AreCells ts ss cells n (to_z w64 (of_z w64 y))) first (subst (λ (n : ℤ). AreCells ts ss cells x n) second are) }
