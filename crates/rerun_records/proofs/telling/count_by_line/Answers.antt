use Rattle.std.proofs.Common.{◌≡◌, true, IfSome, subst, sym, ◌∙◌}
use Rattle.std.specs.Prelude.{nat_eq}
use Rattle.rerun_records.specs.Line.{IsLine}
use Rattle.rerun_records.proofs.HeldCells.{none_won}
use Rattle.rerun_records.proofs.telling.count_by_line.Goals as goal

pub returns-else-may_have_sums-clause-lost : goal.returns-else-may_have_sums-clause-lost
returns-else-may_have_sums-clause-lost c = λ tables before known.
    let edit = c.args.edit.now in
    let line = c.in-Some.line in
    let is_line : IsLine edit.change.now line.first line.end line.count edit.lost.now =
    subst (λ o. IfSome o (λ l. IsLine edit.change.now l.first l.end l.count edit.lost.now)) c.in-Some.is c.requires.line in
    let fresh : nat_eq c.args.number 0 ≡ true = sym c.is_fresh.ensures.fresh ∙ c.if-not-is_fresh.false in
    is_line.many tables c.args.reads.now (c.may_have_sums.ensures.none c.if-may_have_sums.false) (known fresh) (c.have_line.ensures.have c.if-not-have_line.false) before.all_held

pub returns-else-may_have_sums-clause-won : goal.returns-else-may_have_sums-clause-won
returns-else-may_have_sums-clause-won c = λ tables before known.
    none_won tables c.args.edit.now.won.now c.args.reads.now before.none_held (known (sym c.is_fresh.ensures.fresh ∙ c.if-not-is_fresh.false))
