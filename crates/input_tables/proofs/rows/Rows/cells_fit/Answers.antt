use Rattle.input_tables.proofs.PageEdits.{rows_fit}
use Rattle.input_tables.proofs.rows.Rows.cells_fit.Goals as goal

pub returns : goal.returns
returns c = rw (← c.self.view_is) (record { fit = rows_fit c.self.inside.pages.items c.self.invariant.1 })
