use Rattle.std.proofs.Common.{◌≡◌, ◌-◌, true, sym, subst, ◌∙◌}
use Rattle.meaning.specs.Every.{every}
use Rattle.instance_records.specs.Spans.{is_covered_by}
use Rattle.rerun_records.proofs.Covering.{there_is}
use Rattle.rerun_records.proofs.Passing.{reaches_record}
use Rattle.rerun_records.proofs.skips.reach_one.Goals as goal

pub returns-clause-reaches : goal.returns-clause-reaches
returns-clause-reaches c =
    let list = c.args.list.now in
    reaches_record list c.args.skips.now c.args.hull.now c.args.place c.args.first c.args.before c.requires.held c.requires.reaches c.requires.some (c.ends_at.ensures.other c.if-ends_at.false)
    (λ r there.
    subst (λ ns. every (is_covered_by c.args.hull.now) ns ≡ true) (sym (there_is list (c.args.first - 1) r c.index-list-last.result there c.index-list-last.is ∙ sym c.reads-reads.ensures.reads))
    (c.has.ensures.has c.if-not-has.false))
