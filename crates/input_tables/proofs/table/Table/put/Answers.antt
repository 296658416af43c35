use Rattle.std.proofs.Common.{◌≡◌, length, subst, sym, ◌∙◌, string_bytes}
use Rattle.std.proofs.lemmas.List.{length-map}
use Rattle.meaning.specs.Tables.{Listed}
use Rattle.input_tables.specs.Rows.{AreWide}
use Rattle.input_tables.proofs.Laid.{wide_put}
use Rattle.input_tables.proofs.Totals.{many_put, totals_put}
use Rattle.input_tables.proofs.table.Table.put.Goals as goal

pub invariant_of-self-2 : goal.invariant_of-self-2
invariant_of-self-2 c =
    let columns = c.self.inside.columns.items in
    let rows = c.self.inside.rows in
    let sums = c.self.inside.sums.items in
    let values = c.args.values.now in
    let wide = subst (λ (t : Listed). length values ≡ length t.columns) (sym c.self.view_is) c.requires.wide ∙ length-map columns string_bytes in
    let many = c.self.invariant.1 in
    rw (c.in_ok-put.ensures.put, c.in_ok-put.ensures.sums) (
      wide_put (length columns) _ values rows wide c.self.invariant.0,
      many_put _ values sums rows ∙ many,
      totals_put _ values sums rows c.in_ok-put.ensures.rising (wide ∙ sym many) (subst (λ w. AreWide w rows) (sym many) c.self.invariant.0) c.self.invariant.2,
    )
