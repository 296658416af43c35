use Rattle.std.proofs.Common.{length, subst, sym, ◌∙◌}
use Rattle.input_tables.specs.Rows.{AreWide}
use Rattle.input_tables.proofs.Laid.{wide_gone}
use Rattle.input_tables.proofs.Totals.{many_gone, totals_gone}
use Rattle.input_tables.proofs.table.Table.delete.Goals as goal

pub invariant_of-self : goal.invariant_of-self
invariant_of-self c =
    let rows = c.self.inside.rows in
    let sums = c.self.inside.sums.items in
    let many = c.self.invariant.1 in
    rw (c.delete.ensures.gone, c.delete.ensures.sums) (
      wide_gone (length c.self.inside.columns.items) _ rows c.self.invariant.0,
      many_gone _ sums rows ∙ many,
      totals_gone _ sums rows (subst (λ w. AreWide w rows) (sym many) c.self.invariant.0) c.self.invariant.2,
    )
