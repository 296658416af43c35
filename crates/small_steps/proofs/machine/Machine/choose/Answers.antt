use Rattle.std.proofs.Common.{rules, ◌≡◌, ◌∙◌, if◌then◌else◌, length, reverse, pos, ap, subst}
use Rattle.std.specs.Ordering.{int_eq}
use Rattle.linked_program.specs.CodeView.{expression as plain}
use Rattle.evaluation.specs.Values.{value_at}
use Rattle.positions.specs.Activations.{PlainActivation, inside}
use Rattle.positions.specs.Strands.{PlainStrand}
use Rattle.positions.specs.Advance.{choosing}
use Rattle.small_steps.proofs.Undone.{goes_on, is_faulted, is_undone}
use Rattle.small_steps.proofs.machine.Machine.choose.Goals as goal

pub returns-in-Ok-clause-chosen : goal.returns-in-Ok-clause-chosen
returns-in-Ok-clause-chosen g c =
    let s = c.args.self.now in
    let v = c.in-Some.value in
    let out = value_at c.args.tables.now.tables s.top.slots (plain c.args.condition.now) in
    let m : PlainStrand = record { start = c.self-in-Some.inside.start; layer = c.self-in-Some.inside.layer; lower = reverse c.self-in-Some.inside.lower.items; path = c.self-in-Some.inside.path.items; top = c.self-in-Some.inside.top; below = reverse c.self-in-Some.inside.below.items; phase = c.self-in-Some.inside.phase; arguments = c.self-in-Some.inside.arguments.items; tally = c.self-in-Some.inside.tally } in
    let block : c.if-value-eq0.block ≡ (if int_eq v (pos 0) then c.args.second else c.args.first) = search rules in
    ap (λ (a : PlainActivation). record m { top = a }) (c.in-Ok.ensures.inside ∙ ap (λ b. inside b c.args.position m.top) block)
    ∙ ap (λ (z : PlainStrand). choosing c.args.position c.args.first c.args.second v z) c.self-in-Some.view_is
    ∙ goes_on (λ w. w) c.args.statement out s c.value.new.self c.in_ok-value.field-0 c.in_ok-value.ensures.evaluated (choosing c.args.position c.args.first c.args.second) v c.in-Some.is

pub returns-in-Err-clause-unchanged : goal.returns-in-Err-clause-unchanged
returns-in-Err-clause-unchanged g c =
    let s = c.args.self.now in
    let out = value_at c.args.tables.now.tables s.top.slots (plain c.args.condition.now) in
    let m : PlainStrand = record { start = c.self-in-Some.inside.start; layer = c.self-in-Some.inside.layer; lower = reverse c.self-in-Some.inside.lower.items; path = c.self-in-Some.inside.path.items; top = c.self-in-Some.inside.top; below = reverse c.self-in-Some.inside.below.items; phase = c.self-in-Some.inside.phase; arguments = c.self-in-Some.inside.arguments.items; tally = c.self-in-Some.inside.tally } in
    let same = ap (λ (a : PlainActivation). record m { top = a }) c.in-Err.ensures.unchanged ∙ c.self-in-Some.view_is in
    let count : c.readings-before.result ≡ length s.layer.notes =
    subst (λ (z : PlainStrand). c.readings-before.result ≡ length z.layer.notes) c.self.view_is c.readings-before.ensures.count in
    is_undone (λ w. w) c.args.statement out s c.value.new.self c.in_ok-value.field-0 c.in_ok-value.ensures.evaluated c.in-Some.value (record m { top = c.go_inside.new.self }) c.forget.new.self
    c.readings-before.result c.in-Some.is count same c.forget.ensures.forgotten

pub returns-in-None-clause-chosen : goal.returns-in-None-clause-chosen
returns-in-None-clause-chosen g c =
    let s = c.args.self.now in
    let out = value_at c.args.tables.now.tables s.top.slots (plain c.args.condition.now) in
    is_faulted (λ w. w) c.args.statement out s c.value.new.self c.in_ok-value.field-0 c.in_ok-value.ensures.evaluated (choosing c.args.position c.args.first c.args.second) c.in-None.is
