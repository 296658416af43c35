use Rattle.std.proofs.Common.{arith, sym, ◌∙◌}
use Rattle.rerun_records.proofs.Covering.{one_hull_more}
use Rattle.rerun_records.proofs.covers.apart_by_narrow.Goals as goal

pub returns-then-number-eq0-clause-apart : goal.returns-then-number-eq0-clause-apart
returns-then-number-eq0-clause-apart c = λ records h.
    let l = c.loop-number in
    let some = c.loop-number-test.true in
    one_hull_more records c.args.hulls.now c.args.change.now l.number c.args.end (omega (arith, some)) (sym c.is_hull_apart.ensures.apart ∙ c.if-is_hull_apart.true) h (l.invariant.apart records h)

pub loop-number-preserved : goal.loop-number-preserved
loop-number-preserved c =
    let l = c.loop-number in
    let some = c.loop-number-test.true in
    let within = l.invariant.within in
    record {
      within = omega (arith, some, within);
      apart = λ records h. one_hull_more records c.args.hulls.now c.args.change.now l.number c.args.end (omega (arith, some)) (sym c.is_hull_apart.ensures.apart ∙ c.if-is_hull_apart.true) h (l.invariant.apart records h);
    }
