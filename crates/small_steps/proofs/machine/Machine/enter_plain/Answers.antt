use Rattle.std.proofs.Common.{◌≡◌, ◌∙◌, ℕ, length, map, subst}
use Rattle.linked_program.specs.CodeView.{expression as plain, slots_of}
use Rattle.evaluation.specs.Values.{entry_at}
use Rattle.positions.specs.Strands.{PlainStrand}
use Rattle.small_steps.specs.Ends.{Evaluates}
use Rattle.small_steps.specs.Steps.{nested_plain}
use Rattle.small_steps.proofs.Undone.{goes_on, is_faulted, is_undone}
use Rattle.small_steps.proofs.machine.Machine.enter_plain.Goals as goal

pub returns-in-Ok-clause-entered : goal.returns-in-Ok-clause-entered
returns-in-Ok-clause-entered g c =
    let e = c.args.entrance in
    let s = c.args.self.now in
    let entry = λ (n : ℕ). entry_at c.args.setting.tables.now.tables s.top.slots n (map plain c.args.arguments.now) in
    let size = slots_of c.args.setting.program.now.codes e.callee in
    let ends : Evaluates (λ v. v.items) e.statement (entry size) s c.entry.new.self c.in_ok-slots.field-0 =
    subst (λ n. Evaluates (λ v. v.items) e.statement (entry n) s c.entry.new.self c.in_ok-slots.field-0) c.slots-size.ensures.slots c.in_ok-slots.ensures.evaluated in
    c.in-Ok.ensures.nested
    ∙ goes_on (λ v. v.items) e.statement (entry size) s c.entry.new.self c.in_ok-slots.field-0 ends (nested_plain e.statement e.way e.into e.work e.callee) c.in-Some.slots c.in-Some.is

pub returns-in-Err-clause-unchanged : goal.returns-in-Err-clause-unchanged
returns-in-Err-clause-unchanged g c =
    let s = c.args.self.now in
    let out = entry_at c.args.setting.tables.now.tables s.top.slots c.slots-size.result (map plain c.args.arguments.now) in
    let count : c.readings-before.result ≡ length s.layer.notes =
    subst (λ (z : PlainStrand). c.readings-before.result ≡ length z.layer.notes) c.self.view_is c.readings-before.ensures.count in
    is_undone (λ v. v.items) c.args.entrance.statement out s c.entry.new.self c.in_ok-slots.field-0 c.in_ok-slots.ensures.evaluated c.in-Some.slots c.nest.new.self c.forget.new.self c.readings-before.result
    c.in-Some.is count c.in-Err.ensures.unchanged c.forget.ensures.forgotten

pub returns-in-None-clause-entered : goal.returns-in-None-clause-entered
returns-in-None-clause-entered g c =
    let e = c.args.entrance in
    let s = c.args.self.now in
    let entry = λ (n : ℕ). entry_at c.args.setting.tables.now.tables s.top.slots n (map plain c.args.arguments.now) in
    let size = slots_of c.args.setting.program.now.codes e.callee in
    let ends : Evaluates (λ v. v.items) e.statement (entry size) s c.entry.new.self c.in_ok-slots.field-0 =
    subst (λ n. Evaluates (λ v. v.items) e.statement (entry n) s c.entry.new.self c.in_ok-slots.field-0) c.slots-size.ensures.slots c.in_ok-slots.ensures.evaluated in
    is_faulted (λ v. v.items) e.statement (entry size) s c.entry.new.self c.in_ok-slots.field-0 ends (nested_plain e.statement e.way e.into e.work e.callee) c.in-None.is
