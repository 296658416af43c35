use Rattle.std.proofs.Common.{◌≡◌, ◌∙◌, length, map, ap, refl, subst, Some}
use Rattle.linked_program.specs.CodeView.{expression as plain}
use Rattle.evaluation.specs.Values.{values_at}
use Rattle.positions.specs.Strands.{PlainStrand}
use Rattle.positions.specs.Advance.{evaluated, nested_memo}
use Rattle.small_steps.specs.Ends.{Evaluates}
use Rattle.activations.specs.Given.{lent}
use Rattle.small_steps.specs.Steps.{GivesNone}
use Rattle.small_steps.proofs.Nesting.{evaluated_some, evaluated_none}
use Rattle.small_steps.proofs.Supplies.{either_way, holds_as, kits_stay}
use Rattle.small_steps.proofs.Undone.{goes_on_above, is_faulted, is_valued, kits_between}
use Rattle.small_steps.proofs.machine.Machine.enter_memo_by.Goals as goal

pub returns-in-Ok-clause-entered : goal.returns-in-Ok-clause-entered
returns-in-Ok-clause-entered g c =
    let e = c.args.entrance in
    let s = c.args.self.now in
    let mid = c.values.new.self in
    let out = values_at c.args.setting.tables.now.tables s.top.slots (map plain c.args.arguments.now) in
    let ends : Evaluates (λ u. c.values.new.numbers.items) e.statement out s mid (Some c.in-Some.field-0) =
    subst (λ r. Evaluates (λ u. c.values.new.numbers.items) e.statement out s mid r) c.in-Some.is c.in_ok-values.ensures.evaluated in
    holds_as (g.K.KitSource.lacks c.args.kits.now) (GivesNone g.K.KitSource.gives c.args.kits.now)
    (λ kit. c.nest_memo.new.self ≡ nested_memo (lent c.args.setting) kit e.statement e.way e.into e.work e.callee c.values.new.numbers.items mid)
    (λ kit. c.nest_memo.new.self ≡ evaluated e.statement out (nested_memo (lent c.args.setting) kit e.statement e.way e.into e.work e.callee) s)
    (λ kit h. h ∙ evaluated_some (λ u. c.values.new.numbers.items) e.statement out (nested_memo (lent c.args.setting) kit e.statement e.way e.into e.work e.callee) s mid c.in-Some.field-0 ends)
    c.in-Ok.ensures.nested

pub returns-in-None-clause-kits : goal.returns-in-None-clause-kits
returns-in-None-clause-kits g c =
    let s = c.args.self.now in
    let out = values_at c.args.setting.tables.now.tables s.top.slots (map plain c.args.arguments.now) in
    kits_stay g.K.KitSource.fits g.K.KitSource.gives g.K.KitSource.free g.K.KitSource.total c.args.setting.program.now.kinds c.args.kits.now s.lower c.values.new.self.lower c.requires.supplied.given
    (evaluated_none {B = Unit {0}} (λ u. c.values.new.numbers.items) c.args.entrance.statement out s c.values.new.self
    (subst (λ r. Evaluates (λ u. c.values.new.numbers.items) c.args.entrance.statement out s c.values.new.self r) c.in-None.is c.in_ok-values.ensures.evaluated))

pub returns-in-None-clause-entered : goal.returns-in-None-clause-entered
returns-in-None-clause-entered g c =
    let e = c.args.entrance in
    let s = c.args.self.now in
    let out = values_at c.args.setting.tables.now.tables s.top.slots (map plain c.args.arguments.now) in
    either_way (g.K.KitSource.lacks c.args.kits.now) (GivesNone g.K.KitSource.gives c.args.kits.now)
    (λ kit. c.values.new.self ≡ evaluated e.statement out (nested_memo (lent c.args.setting) kit e.statement e.way e.into e.work e.callee) s)
    (λ kit. is_faulted {B = Unit {0}} (λ u. c.values.new.numbers.items) e.statement out s c.values.new.self c.in_ok-values.field-0 c.in_ok-values.ensures.evaluated
    (nested_memo (lent c.args.setting) kit e.statement e.way e.into e.work e.callee) c.in-None.is)

pub returns-in-Ok-clause-kits : goal.returns-in-Ok-clause-kits
returns-in-Ok-clause-kits g c =
    let s = c.args.self.now in
    let out = values_at c.args.setting.tables.now.tables s.top.slots (map plain c.args.arguments.now) in
    let above = goes_on_above {B = Unit {0}} (λ u. c.values.new.numbers.items) c.args.entrance.statement out s c.values.new.self c.in_ok-values.field-0 c.in_ok-values.ensures.evaluated c.in-Some.field-0 c.in-Some.is in
    kits_between g.K.KitSource c.args.setting.program.now.kinds c.args.kits.now c.nest_memo.new.kits s c.values.new.self c.nest_memo.new.self c.nest_memo.new.self above refl c.nest_memo.ensures.kits

pub returns-in-Err-clause-kits : goal.returns-in-Err-clause-kits
returns-in-Err-clause-kits g c =
    let s = c.args.self.now in
    let out = values_at c.args.setting.tables.now.tables s.top.slots (map plain c.args.arguments.now) in
    let above = goes_on_above {B = Unit {0}} (λ u. c.values.new.numbers.items) c.args.entrance.statement out s c.values.new.self c.in_ok-values.field-0 c.in_ok-values.ensures.evaluated c.in-Some.field-0 c.in-Some.is in
    kits_between g.K.KitSource c.args.setting.program.now.kinds c.args.kits.now c.nest_memo.new.kits s c.values.new.self c.nest_memo.new.self c.forget.new.self above
    (ap (λ (u : PlainStrand). u.lower) c.forget.ensures.forgotten) c.nest_memo.ensures.kits

pub returns-in-Err-clause-refused : goal.returns-in-Err-clause-refused
returns-in-Err-clause-refused g c =
    let s = c.args.self.now in
    let out = values_at c.args.setting.tables.now.tables s.top.slots (map plain c.args.arguments.now) in
    let count : c.readings-before.result ≡ length s.layer.notes =
    subst (λ (z : PlainStrand). c.readings-before.result ≡ length z.layer.notes) c.self.view_is c.readings-before.ensures.count in
    is_valued {B = Unit {0}} (λ u. c.values.new.numbers.items) c.args.entrance.statement out s c.values.new.self c.in_ok-values.field-0 c.in_ok-values.ensures.evaluated c.in-Some.field-0 c.nest_memo.new.self
    c.forget.new.self c.readings-before.result c.in-Some.is count c.in-Err.ensures.refused c.forget.ensures.forgotten
