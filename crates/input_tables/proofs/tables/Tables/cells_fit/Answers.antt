use Rattle.std.proofs.Common.{◌≡◌, length, ap, ◌∙◌, arith}
use Rattle.input_tables.proofs.Numbered.{cells_of_fit, none_left}
use Rattle.input_tables.proofs.tables.Tables.cells_fit.Goals as goal

pub returns : goal.returns
returns c =
    let ts = c.args.self.now.tables in
    let i = c.loop-table.table-index in
    let size : length c.deref-table-items.result.now ≡ length ts = ap length (c.deref-table-items.ensures.value ∙ ap (λ t. t.tables) c.self.view_is) in
    record { fit = cells_of_fit ts (c.loop-table.invariant (none_left ts i (omega (arith, size, c.loop-table-test.false)))) }
