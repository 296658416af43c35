use Rattle.std.proofs.Common.{rules, arith, ◌∙◌, pos, get_or, FitsSigned, w64, to_z-of_z}
use Rattle.record_index.proofs.RowSums.{cells_more, get_total}
use Rattle.record_index.proofs.changes.put_cells.Goals as goal

pub loop-column-preserved : goal.loop-column-preserved
loop-column-preserved c =
    let fits : FitsSigned w64 (get_or c.args.values.now c.loop-column.column (pos 0)) = search rules in
    record {
      put = cells_more c.args.table _ c.loop-column.column _ _ _ c.loop-column.notes.items _ _ c.loop-column-test.true
          (to_z-of_z fits ∙ get_total c.args.values.now c.loop-column.column) c.put_cell.ensures.put c.loop-column.invariant.put;
      few = omega (arith, c.put_cell.ensures.few, c.loop-column.invariant.few);
      room = c.put_cell.ensures.room ∙ c.loop-column.invariant.room;
    }
