use Rattle.std.proofs.Common.{◌≡◌, Bool, map, sym, subst, OnOk}
use Rattle.linked_program.specs.CodeView.{expression as plain}
use Rattle.evaluation.specs.Values.{values_at}
use Rattle.positions.specs.Strands.{PlainStrand}
use Rattle.positions.specs.Advance.{evaluated, nested_memo}
use Rattle.activations.specs.Given.{lent}
use Rattle.small_steps.specs.Steps.{GivesNone, HoldsBy}
use Rattle.small_steps.proofs.machine.Machine.enter_memo.Goals as goal

pub returns-clause-entered : goal.returns-clause-entered
returns-clause-entered g c =
    let e = c.args.entrance in
    let lacks = g.K.KitSource.lacks c.args.kits.now in
    let none = GivesNone g.K.KitSource.gives c.args.kits.now in
    let next : Bool → PlainStrand → PlainStrand =
    λ kit s. evaluated e.statement (values_at c.args.setting.tables.now.tables s.top.slots (map plain c.args.arguments.now)) (nested_memo (lent c.args.setting) kit e.statement e.way e.into e.work e.callee) s in
    let made = c.enter_memo_by-outcome in
    subst (λ (z : PlainStrand). OnOk made.result (HoldsBy lacks none (λ kit. z ≡ next kit c.args.self.now))) (sym c.self-2.view_is)
    (subst (λ (s : PlainStrand). OnOk made.result (HoldsBy lacks none (λ kit. made.new.self ≡ next kit s))) c.self.view_is made.ensures.entered)
