use Rattle.std.proofs.Common.{◌≡◌, ◌∙◌, sym, refl, true, map}
use Rattle.linked_program.specs.CodeView.{expression as plain, memo_of}
use Rattle.evaluation.specs.Values.{values_at}
use Rattle.positions.specs.Advance.{called, evaluated, nested_memo}
use Rattle.activations.specs.Given.{lent}
use Rattle.small_steps.specs.Steps.{GivesNone}
use Rattle.small_steps.proofs.Nesting.{called_memo}
use Rattle.small_steps.proofs.Supplies.{holds_on}
use Rattle.small_steps.proofs.machine.Machine.enter.Goals as goal

pub returns-then-is_memo-clause-called : goal.returns-then-is_memo-clause-called
returns-then-is_memo-clause-called g c =
    let a = c.args in
    let e = c.args.entrance in
    let s = c.args.self.now in
    let es = map plain c.args.arguments.now in
    let memo : memo_of a.setting.program.now.codes e.callee ≡ true = sym c.is_memo.ensures.memo ∙ c.if-is_memo.true in
    holds_on (g.K.KitSource.lacks a.kits.now) (GivesNone g.K.KitSource.gives a.kits.now)
    (λ kit. c.enter_memo.new.self ≡ evaluated e.statement (values_at a.setting.tables.now.tables s.top.slots es) (nested_memo (lent a.setting) kit e.statement e.way e.into e.work e.callee) s)
    (λ kit. c.enter_memo.new.self ≡ called (lent a.setting) kit e.statement e.way e.into e.work e.callee es s.top.slots s)
    (λ kit h. h ∙ called_memo (lent a.setting) kit e.statement e.way e.into e.work e.work e.callee es s.top.slots s memo refl)
    c.enter_memo.result c.enter_memo.ensures.entered
