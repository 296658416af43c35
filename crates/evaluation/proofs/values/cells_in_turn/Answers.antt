use Rattle.std.proofs.Common.{rules, ℕ, ◌∙◌, w64, FitsSigned}
use Rattle.std.proofs.lemmas.Int.{to_z-of_z}
use Rattle.std.specs.Prelude.{slice_get}
use Rattle.input_tables.specs.Edited.{cell_at}
use Rattle.evaluation.specs.Slots.{number_in}
use Rattle.evaluation.specs.Values.{looked}
use Rattle.evaluation.proofs.Rows.{both_end}
use Rattle.evaluation.proofs.values.cells_in_turn.Goals as goal

pub returns-in-Ok-cell : goal.returns-in-Ok-cell
returns-in-Ok-cell c =
    let ts = c.args.tables.now.tables in
    let cells = c.args.cells.now in
    let n = number_in (slice_get c.args.slots.now cells.slot) in
    let at = λ (column : ℕ). looked cells.table n column (cell_at ts cells.table n column) in
    let fits : FitsSigned w64 c.number_in-row.result = search rules in
    let number = to_z-of_z w64 c.number_in-row.result fits ∙ c.number_in-row.ensures in
    let left = rw number at c.in-Ok.ensures in
    let right = rw number at c.in-Ok-cell.ensures in
    let fits_left : FitsSigned w64 c.in-Ok.left = search rules in
    let fits_right : FitsSigned w64 c.in-Ok-cell.right = search rules in
    let joined = rw (to_z-of_z w64 c.in-Ok.left fits_left, to_z-of_z w64 c.in-Ok-cell.right fits_right) at c.applied.ensures in
    record {
      stops = both_end c.args.operator (at cells.first) (at cells.second) c.args.notes.now c.cell.new.notes c.cell-in-Ok.new.notes c.in-Ok.left c.in-Ok-cell.right c.applied.result
          left.0 left.1 right.0 right.1 joined;
    }
