use Rattle.std.proofs.Common.{◌≡◌, ◌∙◌, ℕ, length, ap, map, subst, None, Some}
use Rattle.meaning.specs.declared.tree.Way.TheVariants.{Call}
use Rattle.linked_program.specs.CodeView.{expression as plain, slots_of}
use Rattle.evaluation.specs.Values.{entry_at}
use Rattle.positions.specs.declared.work.Work.TheVariants.{Turns}
use Rattle.positions.specs.Code.{PlainLoop}
use Rattle.positions.specs.Strands.{PlainStrand}
use Rattle.positions.specs.Advance.{rest_of, turn_slots}
use Rattle.activations.specs.Given.{loop_of}
use Rattle.small_steps.specs.Ends.{Evaluates}
use Rattle.small_steps.specs.Steps.{nested_plain}
use Rattle.small_steps.proofs.Nesting.{evaluated_some}
use Rattle.small_steps.proofs.Undone.{is_faulted, is_undone}
use Rattle.small_steps.proofs.machine.Machine.iterate_plain.Goals as goal

pub returns-in-Ok-clause-turned : goal.returns-in-Ok-clause-turned
returns-in-Ok-clause-turned g c =
    let s = c.args.self.now in
    let mid = c.turn_entry.new.self in
    let j : PlainLoop = loop_of c.args.code in
    let entry = λ (n : ℕ). entry_at c.args.setting.tables.now.tables (turn_slots j c.args.turns.site c.args.turns.share s) n (map plain c.args.code.arguments.now) in
    let size = slots_of c.args.setting.program.now.codes c.args.code.callee in
    let with_size : Evaluates (λ v. v.items) j.number (entry c.slots-size.result) s mid (Some c.in-Some.slots) =
    subst (λ r. Evaluates (λ v. v.items) j.number (entry c.slots-size.result) s mid r) c.in-Some.is c.in_ok-slots.ensures.evaluated in
    let ends : Evaluates (λ v. v.items) j.number (entry size) s mid (Some c.in-Some.slots) =
    subst (λ n. Evaluates (λ v. v.items) j.number (entry n) s mid (Some c.in-Some.slots)) c.slots-size.ensures.slots with_size in
    let next = nested_plain j.number Call None (Turns c.args.turns.site (rest_of c.args.turns.share)) j.callee in
    c.in-Ok.ensures.nested ∙ ap (λ x. nested_plain j.number Call None (Turns c.args.turns.site x) j.callee c.in-Some.slots.items mid) c.rest_of.ensures.rest
    ∙ evaluated_some (λ v. v.items) j.number (entry size) next s mid c.in-Some.slots ends

pub returns-in-Err-clause-unchanged : goal.returns-in-Err-clause-unchanged
returns-in-Err-clause-unchanged g c =
    let s = c.args.self.now in
    let j : PlainLoop = loop_of c.args.code in
    let out = entry_at c.args.setting.tables.now.tables (turn_slots j c.args.turns.site c.args.turns.share s) c.slots-size.result (map plain c.args.code.arguments.now) in
    let count : c.readings-before.result ≡ length s.layer.notes =
    subst (λ (z : PlainStrand). c.readings-before.result ≡ length z.layer.notes) c.self.view_is c.readings-before.ensures.count in
    is_undone (λ v. v.items) j.number out s c.turn_entry.new.self c.in_ok-slots.field-0 c.in_ok-slots.ensures.evaluated c.in-Some.slots c.nest.new.self c.forget.new.self c.readings-before.result c.in-Some.is count
    c.in-Err.ensures.unchanged c.forget.ensures.forgotten

pub returns-in-None-clause-turned : goal.returns-in-None-clause-turned
returns-in-None-clause-turned g c =
    let s = c.args.self.now in
    let j : PlainLoop = loop_of c.args.code in
    let entry = λ (n : ℕ). entry_at c.args.setting.tables.now.tables (turn_slots j c.args.turns.site c.args.turns.share s) n (map plain c.args.code.arguments.now) in
    let size = slots_of c.args.setting.program.now.codes c.args.code.callee in
    let ends : Evaluates (λ v. v.items) j.number (entry size) s c.turn_entry.new.self c.in_ok-slots.field-0 =
    subst (λ n. Evaluates (λ v. v.items) j.number (entry n) s c.turn_entry.new.self c.in_ok-slots.field-0) c.slots-size.ensures.slots c.in_ok-slots.ensures.evaluated in
    is_faulted (λ v. v.items) j.number (entry size) s c.turn_entry.new.self c.in_ok-slots.field-0 ends (nested_plain j.number Call None (Turns c.args.turns.site (rest_of c.args.turns.share)) j.callee) c.in-None.is
