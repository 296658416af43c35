use Rattle.std.proofs.Common.{◌-◌, Some, sym, subst, ap, ◌∙◌, arith}
use Rattle.std.proofs.lemmas.Option.{slice_get-get_or}
use Rattle.rerun_records.specs.Skips.{Reaches}
use Rattle.rerun_records.proofs.Passing.{reaches_hull}
use Rattle.rerun_records.proofs.skips.reach_hull.Goals as goal

pub returns-clause-less : goal.returns-clause-less
returns-clause-less c =
    let skips = c.args.skips.now in
    let t = c.index-skips-last.result in
    let there = slice_get-get_or skips (c.args.before - 1) t (omega (arith, c.requires.some, c.requires.few)) ∙ ap Some (sym c.index-skips-last.is) in
    let begins = c.requires.held.some (c.args.before - 1) t there in
    let ends = c.requires.ends t there in
    let is = c.first.ensures.first in
    omega (arith, begins, ends, is)

pub returns-clause-reaches : goal.returns-clause-reaches
returns-clause-reaches c =
    let skips = c.args.skips.now in
    let list = c.args.list.now in
    let hull = c.args.hull.now in
    let place = c.args.place in
    let t = c.index-skips-last.result in
    let there = slice_get-get_or skips (c.args.before - 1) t (omega (arith, c.requires.some, c.requires.few)) ∙ ap Some (sym c.index-skips-last.is) in
    let reached =
    reaches_hull list skips hull place c.args.first c.args.before t c.requires.held c.requires.reaches c.requires.some there (c.requires.ends t there) (c.lies_in.ensures.lies c.if-not-lies_in.false) in
    subst (λ n. Reaches list skips hull place n c.earlier.result) (sym c.first.ensures.first) (subst (λ n. Reaches list skips hull place t.first n) (sym c.earlier.ensures.earlier) reached)
