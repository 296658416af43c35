use Rattle.std.proofs.Common.{refl, length, sym, subst, ◌∙◌}
use Rattle.input_tables.specs.Rows.{AreWide}
use Rattle.input_tables.proofs.Laid.{wide_put}
use Rattle.input_tables.proofs.Totals.{many_put, totals_put}
use Rattle.input_tables.proofs.shapes.add_row.Goals as goal

pub returns-clause-wide : goal.returns-clause-wide
returns-clause-wide c = rw c.in_ok-put.ensures.put (wide_put (length c.args.values.now) _ c.args.values.now _ refl c.requires.wide)

pub returns-clause-sums : goal.returns-clause-sums
returns-clause-sums c = rw c.in_ok-put.ensures.sums (many_put _ c.args.values.now c.args.sums.now.items c.args.rows.now ∙ c.requires.sums)

pub returns-clause-totals : goal.returns-clause-totals
returns-clause-totals c =
    let many = sym c.requires.sums in
    rw (c.in_ok-put.ensures.put, c.in_ok-put.ensures.sums)
    (totals_put _ c.args.values.now c.args.sums.now.items c.args.rows.now c.in_ok-put.ensures.rising many (subst (λ w. AreWide w c.args.rows.now) many c.requires.wide) c.requires.totals)
