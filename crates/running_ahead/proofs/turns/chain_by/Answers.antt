use Rattle.std.proofs.Common.{rules, ◌≡◌, ◌-◌, ◌+◌, ◌<◌, ◌≤◌, length, ◌+ℤ◌, ℕ, ℤ, pos, true, List, Some, map, slice_set, refl, sym, ap, ◌∙◌, subst, to_z, of_z, w64, add-one}
use Rattle.meaning.specs.Elision.{depth_limit}
use Rattle.linked_program.specs.CodeView.{expression, slots_of}
use Rattle.evaluation.specs.declared.slot.Slot.{Slot}
use Rattle.evaluation.specs.declared.slot.Slot.TheVariants.{Has}
use Rattle.evaluation.specs.Values.{entry_at}
use Rattle.positions.specs.declared.work.Work.TheVariants.{Block}
use Rattle.positions.specs.Activations.{PlainActivation, made, first_of}
use Rattle.positions.specs.Code.{PlainLoop}
use Rattle.positions.specs.Layers.{PlainLayer, entering}
use Rattle.activations.specs.Given.{lent, loop_of}
use Rattle.activations.specs.Turned.{behind}
use Rattle.own_statements.specs.Fills.{Fills, IsCounted}
use Rattle.own_statements.specs.Paths.{ComesTo, StopsBy}
use Rattle.running_ahead.specs.Chains.{AreTurns, none, more}
use Rattle.running_ahead.proofs.Iterations.{is_turn, is_stay}
use Rattle.running_ahead.proofs.turns.chain_by.Goals as goal

pub loop-done-init : goal.loop-done-init
loop-done-init g c = record { turns = none; top = refl; kinds = refl; long = refl }

pub fills_turn-requires-clause-counted : goal.fills_turn-requires-clause-counted
fills_turn-requires-clause-counted g c κs within =
    let a = c.args.code in
    λ t. subst (λ (z : PlainActivation). IsCounted z.slots a.variable (map expression a.arguments.now)) (sym c.loop-done.invariant.top) (c.requires.counted t)

pub loop-done-preserved : goal.loop-done-preserved
loop-done-preserved g c =
    let S = lent c.args.setting in
    let site = c.args.turns.site in
    let d = c.loop-done.done in
    let first : PlainActivation = c.args.top.now in
    let i = c.args.turns.share.first + d in
    let j : PlainLoop = loop_of c.args.code in
    let l = c.loop-done.layer in
    let m = c.fills_turn.new.layer in
    let n = c.call_over.new.layer in
    let child : PlainActivation = c.fills_turn.new.child in
    let count : c.left.result ≡ first.left = c.left.ensures.left in
    let v = to_z w64 (of_z w64 c.number_of-number.result) in
    let share : c.behind.result ≡ behind d c.args.turns.share = c.behind.ensures.rest in
    let number : v ≡ site.low +ℤ pos i = search rules in
    let is_filled : c.fills_turn.result ≡ true = search rules in
    let size : c.slots-size.result ≡ slots_of S.codes j.callee = c.slots-size.ensures.slots in
    let slots : c.loop-done.top.slots ≡ first.slots = ap (λ (z : PlainActivation). z.slots) c.loop-done.invariant.top in
    let filled : Fills (entry_at S.tables (slice_set first.slots j.variable (Has (site.low +ℤ pos i))) (slots_of S.codes j.callee) (map expression j.arguments)) child.slots l m =
    subst (λ (xs : List Slot). Fills (entry_at S.tables (slice_set xs j.variable (Has (site.low +ℤ pos i))) (slots_of S.codes j.callee) (map expression j.arguments)) child.slots l m) slots
    (subst (λ (k : ℕ). Fills (entry_at S.tables (slice_set c.loop-done.top.slots j.variable (Has (site.low +ℤ pos i))) k (map expression j.arguments)) child.slots l m) size
    (subst (λ (u : ℤ). Fills (entry_at S.tables (slice_set c.loop-done.top.slots j.variable (Has u)) c.slots-size.result (map expression j.arguments)) child.slots l m) number (c.fills_turn.ensures.filled is_filled))) in
    let came : ComesTo S true (made j.callee child.slots (Block (first_of 0)) (first.left - 1)) (entering j.callee (depth_limit - (first.left - 1)) m) (Some c.in-Gave.field-0) c.call_over.new.nest.child n =
    subst (λ (k : ℕ). ComesTo S true (made j.callee child.slots (Block (first_of 0)) (k - 1)) (entering j.callee (depth_limit - (k - 1)) m) (Some c.in-Gave.field-0) c.call_over.new.nest.child n) count c.in-Gave.ensures.ahead in
    let turn = is_turn S site j first.procedure first.slots first.left i l c.requires.found c.requires.plain c.requires.deep child.slots m n c.call_over.new.nest.child filled c.call_over.ensures.kinds c.in-Gave.field-0 came in
    record {
      turns = subst (λ (k : ℕ). AreTurns S site first.procedure first.slots first.left c.args.turns.share.first c.args.layer.now k n) (sym (add-one d)) (more d l n c.loop-done.invariant.turns turn);
      top = c.fills_turn.ensures.top ∙ c.loop-done.invariant.top;
      long = c.call_over.ensures.long ∙ c.loop-done.invariant.long;
      kinds = c.call_over.ensures.kinds ∙ ap (λ (k : PlainLayer). k.kinds) filled.1 ∙ c.loop-done.invariant.kinds;
    }

pub returns-in-Stopped : goal.returns-in-Stopped
returns-in-Stopped g c =
    let S = lent c.args.setting in
    let site = c.args.turns.site in
    let d = c.loop-done.done in
    let first : PlainActivation = c.args.top.now in
    let i = c.args.turns.share.first + d in
    let j : PlainLoop = loop_of c.args.code in
    let l = c.loop-done.layer in
    let m = c.fills_turn.new.layer in
    let n = c.call_over.new.layer in
    let child : PlainActivation = c.fills_turn.new.child in
    let less : d < c.args.turns.share.count = search rules in
    let count : c.left.result ≡ first.left = c.left.ensures.left in
    let v = to_z w64 (of_z w64 c.number_of-number.result) in
    let share : c.behind.result ≡ behind d c.args.turns.share = c.behind.ensures.rest in
    let number : v ≡ site.low +ℤ pos i = search rules in
    let is_filled : c.fills_turn.result ≡ true = search rules in
    let size : c.slots-size.result ≡ slots_of S.codes j.callee = c.slots-size.ensures.slots in
    let slots : c.loop-done.top.slots ≡ first.slots = ap (λ (z : PlainActivation). z.slots) c.loop-done.invariant.top in
    let filled : Fills (entry_at S.tables (slice_set first.slots j.variable (Has (site.low +ℤ pos i))) (slots_of S.codes j.callee) (map expression j.arguments)) child.slots l m =
    subst (λ (xs : List Slot). Fills (entry_at S.tables (slice_set xs j.variable (Has (site.low +ℤ pos i))) (slots_of S.codes j.callee) (map expression j.arguments)) child.slots l m) slots
    (subst (λ (k : ℕ). Fills (entry_at S.tables (slice_set c.loop-done.top.slots j.variable (Has (site.low +ℤ pos i))) k (map expression j.arguments)) child.slots l m) size
    (subst (λ (u : ℤ). Fills (entry_at S.tables (slice_set c.loop-done.top.slots j.variable (Has u)) c.slots-size.result (map expression j.arguments)) child.slots l m) number (c.fills_turn.ensures.filled is_filled))) in
    let over = c.in-Stopped.more in
    let ys : List PlainActivation = c.call_over.new.nest.above.items in
    let stop : StopsBy S true (made j.callee child.slots (Block (first_of 0)) (first.left - 1)) (entering j.callee (depth_limit - (first.left - 1)) m) over c.call_over.new.nest.child ys n =
    subst (λ (k : ℕ). StopsBy S true (made j.callee child.slots (Block (first_of 0)) (k - 1)) (entering j.callee (depth_limit - (k - 1)) m) over c.call_over.new.nest.child ys n) count c.in-Stopped.ensures.ahead in
    let long : length ys ≡ length c.args.nest.now.above.items = c.call_over.ensures.long ∙ c.loop-done.invariant.long in
    let stay = is_stay S site j first.procedure first.slots first.left i l c.requires.found c.requires.plain c.requires.deep child.slots m n c.call_over.new.nest.child filled c.call_over.ensures.kinds over ys stop in
    record {
      came = record { before = l; turns = c.loop-done.invariant.turns; stay = stay };
      fewer = (less, subst (λ (k : ℕ). over ≤ k) long stop.0);
      long = long;
      top = c.fills_turn.ensures.top ∙ c.loop-done.invariant.top;
    }
