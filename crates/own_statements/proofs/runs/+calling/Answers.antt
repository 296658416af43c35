use Rattle.activations.specs.Given.{lent}
use Rattle.evaluation.specs.Values.{entry_at, value_at, values_at}
use Rattle.linked_program.specs.CodeView.{expression, instruction_at, memo_of, slots_of}
use Rattle.linked_program.specs.declared.code.Instruction.{Instruction}
use Rattle.own_statements.proofs.Beside.{short_beside}
use Rattle.own_statements.proofs.Calls.{call_returns, call_stays}
use Rattle.own_statements.specs.Fills.{Fills}
use Rattle.own_statements.specs.declared.ran.Inside.TheVariants.{Back}
use Rattle.meaning.specs.Elision.{depth_limit}
use Rattle.meaning.specs.declared.tree.Way.TheVariants.{Call}
use Rattle.linked_program.specs.declared.code.Expression.{Expression}
use Rattle.evaluation.specs.declared.slot.Slot.{Slot}
use Rattle.evaluation.specs.declared.slot.Slot.TheVariants.{Has}
use Rattle.positions.specs.Layers.{PlainLayer, entering}
use Rattle.own_statements.proofs.Paths.{come_gave, come_inside, come_join, come_moved, come_next, come_none, come_out, come_passed, found_as, run_join, stop_here, stop_join}
use Rattle.own_statements.proofs.Shorts.{come_short}
use Rattle.own_statements.specs.Paths.{Chooses, ComesTo, Does, IsInBlock, OnNext, StopsBy, here}
use Rattle.own_statements.specs.Runs.{CallsTo, IsBlock}
use Rattle.own_statements.specs.declared.statements.Chosen.{Chosen}
use Rattle.own_statements.specs.declared.statements.Did.TheVariants.{Next, Nothing}
use Rattle.positions.specs.Activations.{PlainActivation, at, bound, first_of, made, next_of, waiting}
use Rattle.positions.specs.Advance.{choosing, combining, evaluated, performed}
use Rattle.positions.specs.Code.{instruction_inside}
use Rattle.positions.specs.declared.work.Position.{Position}
use Rattle.positions.specs.declared.work.Work.TheVariants.{Block}
use Rattle.std.proofs.Common.{[], Bool, List, None, Some, ap, false, if◌then◌else◌, length, map, of_z, refl, rules, slice_get, subst, sym, to_z, true, w64, add-one, ℕ, ℤ, ◌+◌, ◌-◌, ◌==◌, ◌∷◌, ◌<◌, ◌∙◌, ◌≡◌, ◌≤◌}
use Rattle.std.proofs.lemmas.Option.{slice_get_past, slice_get_read}
use Rattle.own_statements.specs.declared.statements.Chosen.TheVariants as chosen
use Rattle.own_statements.proofs.runs.+calling.Goals as goal

pub run_block-loop-index-init : goal.run_block-loop-index-init
run_block-loop-index-init g t c = record { kinds = refl; long = refl; same = (refl, refl); come = λ s may. here }

pub run_block-returns-clause-ran : goal.run_block-returns-clause-ran
run_block-returns-clause-ran g t c =
    let S = lent c.args.setting in
    let a = at (Block c.args.rest.position) c.args.top.now in
    let xs = c.args.rest.statements.now in
    let index = c.loop-index.index in
    let p : Position = record { block = c.args.rest.position.block; index = index } in
    let b = c.loop-index.top in
    let past : length xs ≤ index = search rules in
    let found : None ≡ instruction_inside S.codes b.procedure (length b.outer) p =
    sym (slice_get_past xs index past) ∙ c.requires.block index ∙ found_as S.codes c.args.top.now b p c.loop-index.invariant.same.0 c.loop-index.invariant.same.1 in
    run_join S c.args.passes_syncs a c.args.layer.now c.go_behind.new.top c.loop-index.layer c.ran_to-2.result c.go_behind.new.top c.loop-index.above c.loop-index.layer
    (come_out S c.args.passes_syncs a c.args.layer.now p b c.loop-index.layer c.loop-index.invariant.come c.go_behind.new.top found c.go_behind.ensures.outside)
    (c.ran_to-2.ensures.runs c.args.passes_syncs c.loop-index.layer c.loop-index.above)

pub run_block-enters-requires-clause-found : goal.run_block-enters-requires-clause-found
run_block-enters-requires-clause-found g t c κs within =
    let S = lent c.args.setting in
    let xs = c.args.rest.statements.now in
    let index = c.loop-index.index in
    let i = c.index-statements-index.result in
    let p : Position = record { block = c.args.rest.position.block; index = index } in
    let there : index < length xs = search rules in
    let before = c.loop-index.top in
    let there0 : Some i ≡ instruction_inside S.codes before.procedure (length before.outer) p =
    sym (slice_get_read xs (length xs) index i refl there c.index-statements-index.is) ∙ c.requires.block index
    ∙ found_as S.codes c.args.top.now before p c.loop-index.invariant.same.0 c.loop-index.invariant.same.1 in
    let b = c.perform.new.top in
    let undone = c.in-Nothing.ensures.done in
    there0 ∙ found_as S.codes before b p (ap (λ (z : PlainActivation). z.procedure) undone.0) (ap (λ (z : PlainActivation). z.outer) undone.0)

pub run_block-loop-index-preserved : goal.run_block-loop-index-preserved
run_block-loop-index-preserved g t c =
    let S = lent c.args.setting in
    let a = at (Block c.args.rest.position) c.args.top.now in
    let xs = c.args.rest.statements.now in
    let index = c.loop-index.index in
    let i = c.index-statements-index.result in
    let p : Position = record { block = c.args.rest.position.block; index = index } in
    let there : index < length xs = search rules in
    let before = c.loop-index.top in
    let l0 = c.loop-index.layer in
    let there0 : Some i ≡ instruction_inside S.codes before.procedure (length before.outer) p =
    sym (slice_get_read xs (length xs) index i refl there c.index-statements-index.is) ∙ c.requires.block index
    ∙ found_as S.codes c.args.top.now before p c.loop-index.invariant.same.0 c.loop-index.invariant.same.1 in
    let b = c.perform.new.top in
    let l = c.perform.new.layer in
    let undone = c.in-Nothing.ensures.done in
    let come : ComesTo S c.args.passes_syncs a c.args.layer.now None (at (Block p) b) l =
    come_none S c.args.passes_syncs a c.args.layer.now p before l0 c.loop-index.invariant.come i there0 b l undone in
    let within : IsInBlock c.args.top.now b =
    (ap (λ (z : PlainActivation). z.procedure) undone.0 ∙ c.loop-index.invariant.same.0, ap (λ (z : PlainActivation). z.outer) undone.0 ∙ c.loop-index.invariant.same.1) in
    let kept : l.kinds ≡ c.args.layer.now.kinds = c.perform.ensures.kinds ∙ c.loop-index.invariant.kinds in
    let found : Some i ≡ instruction_inside S.codes b.procedure (length b.outer) p = there0 ∙ found_as S.codes before b p (ap (λ (z : PlainActivation). z.procedure) undone.0) (ap (λ (z : PlainActivation). z.outer) undone.0) in
    let called = c.in-Back.ensures.called in
    record {
      kinds = c.enters.ensures.kinds ∙ kept;
      long = c.enters.ensures.long ∙ c.loop-index.invariant.long;
      same = (called.0.0 ∙ within.0, called.0.1 ∙ within.1);
      come = come_join S c.args.passes_syncs a c.args.layer.now (at (Block p) b) l None (at (Block (next_of p)) c.enters.new.top) c.enters.new.layer come called.1;
    }

pub run_block-returns-in-Stays-clause-ran : goal.run_block-returns-in-Stays-clause-ran
run_block-returns-in-Stays-clause-ran g t c =
    let S = lent c.args.setting in
    let a = at (Block c.args.rest.position) c.args.top.now in
    let xs = c.args.rest.statements.now in
    let index = c.loop-index.index in
    let i = c.index-statements-index.result in
    let p : Position = record { block = c.args.rest.position.block; index = index } in
    let there : index < length xs = search rules in
    let before = c.loop-index.top in
    let l0 = c.loop-index.layer in
    let there0 : Some i ≡ instruction_inside S.codes before.procedure (length before.outer) p =
    sym (slice_get_read xs (length xs) index i refl there c.index-statements-index.is) ∙ c.requires.block index
    ∙ found_as S.codes c.args.top.now before p c.loop-index.invariant.same.0 c.loop-index.invariant.same.1 in
    let b = c.perform.new.top in
    let l = c.perform.new.layer in
    let undone = c.in-Nothing.ensures.done in
    let come : ComesTo S c.args.passes_syncs a c.args.layer.now None (at (Block p) b) l =
    come_none S c.args.passes_syncs a c.args.layer.now p before l0 c.loop-index.invariant.come i there0 b l undone in
    let within : IsInBlock c.args.top.now b =
    (ap (λ (z : PlainActivation). z.procedure) undone.0 ∙ c.loop-index.invariant.same.0, ap (λ (z : PlainActivation). z.outer) undone.0 ∙ c.loop-index.invariant.same.1) in
    let kept : l.kinds ≡ c.args.layer.now.kinds = c.perform.ensures.kinds ∙ c.loop-index.invariant.kinds in
    let found : Some i ≡ instruction_inside S.codes b.procedure (length b.outer) p = there0 ∙ found_as S.codes before b p (ap (λ (z : PlainActivation). z.procedure) undone.0) (ap (λ (z : PlainActivation). z.outer) undone.0) in
    stop_join (lent c.args.setting) c.args.passes_syncs (at (Block c.args.rest.position) c.args.top.now) c.args.layer.now (at (Block p) b) l c.in-Stays.waiting c.enters.new.top c.enters.new.above c.enters.new.layer
    come c.in-Stays.ensures.called

pub run_block-perform-requires-clause-short : goal.run_block-perform-requires-clause-short
run_block-perform-requires-clause-short g t c κs within =
    let S = lent c.args.setting in
    let a = at (Block c.args.rest.position) c.args.top.now in
    let xs = c.args.rest.statements.now in
    let index = c.loop-index.index in
    let i = c.index-statements-index.result in
    let p : Position = record { block = c.args.rest.position.block; index = index } in
    let b = c.loop-index.top in
    let there : index < length xs = search rules in
    let found : Some i ≡ instruction_inside S.codes b.procedure (length b.outer) p =
    sym (slice_get_read xs (length xs) index i refl there c.index-statements-index.is) ∙ c.requires.block index
    ∙ found_as S.codes c.args.top.now b p c.loop-index.invariant.same.0 c.loop-index.invariant.same.1 in
    short_beside S.kinds S.codes b.procedure (length b.outer) p i c.short.ensures.short found

pub run_block-loop-index-preserved-in-Next : goal.run_block-loop-index-preserved-in-Next
run_block-loop-index-preserved-in-Next g t c =
    let S = lent c.args.setting in
    let a = at (Block c.args.rest.position) c.args.top.now in
    let xs = c.args.rest.statements.now in
    let index = c.loop-index.index in
    let i = c.index-statements-index.result in
    let p : Position = record { block = c.args.rest.position.block; index = index } in
    let b = c.loop-index.top in
    let there : index < length xs = search rules in
    let found : Some i ≡ instruction_inside S.codes b.procedure (length b.outer) p =
    sym (slice_get_read xs (length xs) index i refl there c.index-statements-index.is) ∙ c.requires.block index
    ∙ found_as S.codes c.args.top.now b p c.loop-index.invariant.same.0 c.loop-index.invariant.same.1 in
    record {
      long = c.loop-index.invariant.long;
      kinds = c.perform.ensures.kinds ∙ c.loop-index.invariant.kinds;
      same = (c.in-Next.ensures.same_block.0 ∙ c.loop-index.invariant.same.0, c.in-Next.ensures.same_block.1 ∙ c.loop-index.invariant.same.1);
      come = come_short S c.args.passes_syncs a c.args.layer.now p b c.loop-index.layer c.loop-index.invariant.come i found c.perform.new.top c.perform.new.layer c.in-Next.ensures.same_block.0 c.in-Next.ensures.done;
    }

pub run_block-returns-in-Gave-clause-ran : goal.run_block-returns-in-Gave-clause-ran
run_block-returns-in-Gave-clause-ran g t c =
    let S = lent c.args.setting in
    let a = at (Block c.args.rest.position) c.args.top.now in
    let xs = c.args.rest.statements.now in
    let index = c.loop-index.index in
    let i = c.index-statements-index.result in
    let p : Position = record { block = c.args.rest.position.block; index = index } in
    let b = c.loop-index.top in
    let there : index < length xs = search rules in
    let found : Some i ≡ instruction_inside S.codes b.procedure (length b.outer) p =
    sym (slice_get_read xs (length xs) index i refl there c.index-statements-index.is) ∙ c.requires.block index
    ∙ found_as S.codes c.args.top.now b p c.loop-index.invariant.same.0 c.loop-index.invariant.same.1 in
    let n = c.perform.new.layer in
    let v = c.in-Gave.value in
    let same : v ≡ to_z w64 (of_z w64 v) = search rules in
    subst (λ (w : ℤ). ComesTo S c.args.passes_syncs a c.args.layer.now (Some w) c.stand.new.self n) same
    (subst (λ (y : PlainActivation). ComesTo S c.args.passes_syncs a c.args.layer.now (Some v) y n) (sym c.stand.ensures.stands)
    (come_gave S c.args.passes_syncs a c.args.layer.now p b c.loop-index.layer c.loop-index.invariant.come i found c.perform.new.top n v c.in-Gave.ensures.done))

pub run_block-returns-in-Moved-clause-ran : goal.run_block-returns-in-Moved-clause-ran
run_block-returns-in-Moved-clause-ran g t c =
    let S = lent c.args.setting in
    let a = at (Block c.args.rest.position) c.args.top.now in
    let xs = c.args.rest.statements.now in
    let index = c.loop-index.index in
    let i = c.index-statements-index.result in
    let p : Position = record { block = c.args.rest.position.block; index = index } in
    let b = c.loop-index.top in
    let there : index < length xs = search rules in
    let found : Some i ≡ instruction_inside S.codes b.procedure (length b.outer) p =
    sym (slice_get_read xs (length xs) index i refl there c.index-statements-index.is) ∙ c.requires.block index
    ∙ found_as S.codes c.args.top.now b p c.loop-index.invariant.same.0 c.loop-index.invariant.same.1 in
    let m = c.perform.new.top in
    let n = c.perform.new.layer in
    run_join S c.args.passes_syncs a c.args.layer.now m n c.ran_to.result m c.loop-index.above n
    (come_moved S c.args.passes_syncs a c.args.layer.now p b c.loop-index.layer c.loop-index.invariant.come i found m n c.in-Moved.ensures.done)
    (c.ran_to.ensures.runs c.args.passes_syncs n c.loop-index.above)

pub run_from-loop-init : goal.run_from-loop-init
run_from-loop-init g t c =
    let S = lent c.args.setting in
    let a = c.args.top.now in
    let l = c.args.layer.now in
    let p : Position = c.args.rest.position in
    record {
      kinds = search rules;
      long = refl;
      block = subst (λ (xs : List Instruction). IsBlock S.codes a c.first.result.0.block xs) (sym c.first.ensures.statements) (subst (λ (q : Position). IsBlock S.codes a q.block c.args.rest.statements.now) (sym c.first.ensures.position) c.requires.block);
      come = subst (λ (q : Position). ComesTo S c.args.passes_syncs (at (Block p) a) l None (at (Block q) a) l) (sym c.first.ensures.position) (λ s may. here);
    }

pub run_from-loop-preserved : goal.run_from-loop-preserved
run_from-loop-preserved g t c =
    let S = lent c.args.setting in
    let a = at (Block c.args.rest.position) c.args.top.now in
    record {
      long = c.run_block.ensures.long ∙ c.loop.invariant.long;
      kinds = c.in-On.ensures.kinds ∙ c.loop.invariant.kinds;
      block = c.in-On.ensures.ran.1;
      come = come_join S c.args.passes_syncs a c.args.layer.now (at (Block c.loop.position) c.loop.top) c.loop.layer None (at (Block c.in-On.next) c.run_block.new.top) c.run_block.new.layer c.loop.invariant.come c.in-On.ensures.ran.0;
    }

pub run_from-returns-in-Stopped-clause-ahead : goal.run_from-returns-in-Stopped-clause-ahead
run_from-returns-in-Stopped-clause-ahead g t c =
    stop_join (lent c.args.setting) c.args.passes_syncs (at (Block c.args.rest.position) c.args.top.now) c.args.layer.now (at (Block c.loop.position) c.loop.top) c.loop.layer c.in-Stopped.waiting c.run_block.new.top c.run_block.new.above c.run_block.new.layer c.loop.invariant.come c.in-Stopped.ensures.ran

pub run_from-returns-in-Gave-clause-ahead : goal.run_from-returns-in-Gave-clause-ahead
run_from-returns-in-Gave-clause-ahead g t c =
    let S = lent c.args.setting in
    let a = at (Block c.args.rest.position) c.args.top.now in
    let same : c.in-Gave.value ≡ to_z w64 (of_z w64 c.in-Gave.value) = search rules in
    subst (λ (v : ℤ). ComesTo S c.args.passes_syncs a c.args.layer.now (Some v) c.run_block.new.top c.run_block.new.layer) same
    (come_join S c.args.passes_syncs a c.args.layer.now (at (Block c.loop.position) c.loop.top) c.loop.layer (Some c.in-Gave.value) c.run_block.new.top c.run_block.new.layer c.loop.invariant.come c.in-Gave.ensures.ran)

pub run_from-returns-clause-ahead : goal.run_from-returns-clause-ahead
run_from-returns-clause-ahead g t c =
    let S = lent c.args.setting in
    subst (λ (y : PlainActivation). StopsBy S c.args.passes_syncs (at (Block c.args.rest.position) c.args.top.now) c.args.layer.now 0 y c.loop.above c.loop.layer) (sym c.stand.ensures.stands)
    (stop_here S c.args.passes_syncs (at (Block c.args.rest.position) c.args.top.now) c.args.layer.now (at (Block c.loop.position) c.loop.top) c.loop.above c.loop.layer c.loop.invariant.come)

pub call-run_from-requires-clause-block : goal.call-run_from-requires-clause-block
call-run_from-requires-clause-block g t c κs within = subst (λ (z : PlainActivation). IsBlock c.args.setting.program.now.codes z 0 c.args.callee.body.now) (sym c.begin.ensures.begun) c.requires.body

pub call_inside-returns-in-Gave : goal.call_inside-returns-in-Gave
call_inside-returns-in-Gave g t c =
    let S = lent c.args.setting in
    let p : Position = c.args.site.position in
    let a : PlainActivation = c.args.top.now in
    let l : PlainLayer = c.args.layer.now in
    let i = c.args.site.statement.now in
    let into = c.in-Enter.into in
    let way = c.in-Enter.way in
    let f = c.in-Enter.callee in
    let es = c.in-Enter.arguments in
    let slots : List Slot = c.fills.new.child.slots in
    let k : PlainLayer = c.fills.new.layer in
    let top : c.found_inside.new.top ≡ a = c.if-found_inside.ensures.top refl in
    let layer : c.found_inside.new.layer ≡ l = c.if-found_inside.ensures.layer refl in
    let deep : (a.left == 0) ≡ false = search rules in
    let memo : memo_of S.codes f ≡ false = search rules in
    let call : way ≡ Call = search rules in
    let is_filled : c.fills.result ≡ true = search rules in
    let found_slots : List Slot = c.found_inside.new.top.slots in
    let filled : Fills (entry_at S.tables a.slots (slots_of S.codes f) (map expression es.items)) slots l k =
    subst (λ (z : PlainLayer). Fills (entry_at S.tables a.slots (slots_of S.codes f) (map expression es.items)) slots z k) layer
    (subst (λ (z : PlainActivation). Fills (entry_at S.tables z.slots (slots_of S.codes f) (map expression es.items)) slots c.found_inside.new.layer k) top
    (subst (λ (n : ℕ). Fills (entry_at S.tables found_slots n (map expression es.items)) slots c.found_inside.new.layer k) c.slots-size.ensures.slots
    (subst (λ (xs : List Expression). Fills (entry_at S.tables found_slots c.slots-size.result (map expression xs)) slots c.found_inside.new.layer k) c.as_slice-arguments.ensures.value (c.fills.ensures.filled is_filled)))) in
    let left : c.left-2.result ≡ a.left = c.left-2.ensures.left ∙ ap (λ (z : PlainActivation). z.left) top in
    let waits : c.wait_at.new.self ≡ waiting false into (Block (next_of p)) a =
    subst (λ (q : Position). c.wait_at.new.self ≡ waiting false into (Block q) c.found_inside.new.top) c.next_of.ensures.next c.wait_at.ensures.waiting ∙ ap (λ (z : PlainActivation). waiting false into (Block (next_of p)) z) top in
    let b : PlainActivation = c.call.new.child in
    let u : PlainLayer = c.call.new.layer in
    let v = to_z w64 (of_z w64 c.in-Gave.value) in
    let same : c.in-Gave.value ≡ v = search rules in
    let come : ComesTo S true (made f slots (Block (first_of 0)) (a.left - 1)) (entering f (depth_limit - (a.left - 1)) k) (Some v) b u =
    subst (λ (n : ℤ). ComesTo S true (made f slots (Block (first_of 0)) (a.left - 1)) (entering f (depth_limit - (a.left - 1)) k) (Some n) b u) same
    (subst (λ (n : ℕ). ComesTo S true (made f slots (Block (first_of 0)) (n - 1)) (entering f (depth_limit - (n - 1)) k) (Some c.in-Gave.value) b u) left c.in-Gave.ensures.ahead) in
    let given : c.receive.new.self ≡ bound into (Has v) (waiting false into (Block (next_of p)) a) =
    c.receive.ensures.received ∙ ap (λ (z : PlainActivation). bound z.into (Has v) z) waits in
    record {
      called = subst (λ (z : PlainActivation). CallsTo S true p a l Back z [] u) (sym given)
          ((refl, refl), call_returns S p a l i into way f es slots k deep memo filled call c.in-Enter.is c.requires.found v b u come);
      long = search rules;
      kinds = c.call.ensures.kinds ∙ ap (λ (z : PlainLayer). z.kinds) filled.1;
    }

pub call_inside-returns-in-Stopped : goal.call_inside-returns-in-Stopped
call_inside-returns-in-Stopped g t c =
    let S = lent c.args.setting in
    let p : Position = c.args.site.position in
    let a : PlainActivation = c.args.top.now in
    let l : PlainLayer = c.args.layer.now in
    let i = c.args.site.statement.now in
    let into = c.in-Enter.into in
    let way = c.in-Enter.way in
    let f = c.in-Enter.callee in
    let es = c.in-Enter.arguments in
    let slots : List Slot = c.fills.new.child.slots in
    let k : PlainLayer = c.fills.new.layer in
    let top : c.found_inside.new.top ≡ a = c.if-found_inside.ensures.top refl in
    let layer : c.found_inside.new.layer ≡ l = c.if-found_inside.ensures.layer refl in
    let deep : (a.left == 0) ≡ false = search rules in
    let memo : memo_of S.codes f ≡ false = search rules in
    let call : way ≡ Call = search rules in
    let is_filled : c.fills.result ≡ true = search rules in
    let found_slots : List Slot = c.found_inside.new.top.slots in
    let filled : Fills (entry_at S.tables a.slots (slots_of S.codes f) (map expression es.items)) slots l k =
    subst (λ (z : PlainLayer). Fills (entry_at S.tables a.slots (slots_of S.codes f) (map expression es.items)) slots z k) layer
    (subst (λ (z : PlainActivation). Fills (entry_at S.tables z.slots (slots_of S.codes f) (map expression es.items)) slots c.found_inside.new.layer k) top
    (subst (λ (n : ℕ). Fills (entry_at S.tables found_slots n (map expression es.items)) slots c.found_inside.new.layer k) c.slots-size.ensures.slots
    (subst (λ (xs : List Expression). Fills (entry_at S.tables found_slots c.slots-size.result (map expression xs)) slots c.found_inside.new.layer k) c.as_slice-arguments.ensures.value (c.fills.ensures.filled is_filled)))) in
    let left : c.left-2.result ≡ a.left = c.left-2.ensures.left ∙ ap (λ (z : PlainActivation). z.left) top in
    let waits : c.wait_at.new.self ≡ waiting false into (Block (next_of p)) a =
    subst (λ (q : Position). c.wait_at.new.self ≡ waiting false into (Block q) c.found_inside.new.top) c.next_of.ensures.next c.wait_at.ensures.waiting ∙ ap (λ (z : PlainActivation). waiting false into (Block (next_of p)) z) top in
    let b : PlainActivation = c.call.new.child in
    let u : PlainLayer = c.call.new.layer in
    let more = c.in-Stopped.waiting in
    let ys : List PlainActivation = c.call.new.above in
    let stop : StopsBy S true (made f slots (Block (first_of 0)) (a.left - 1)) (entering f (depth_limit - (a.left - 1)) k) more b ys u =
    subst (λ (n : ℕ). StopsBy S true (made f slots (Block (first_of 0)) (n - 1)) (entering f (depth_limit - (n - 1)) k) more b ys u) left c.in-Stopped.ensures.ahead in
    record {
      called = subst (λ (z : PlainActivation). StopsBy S true (at (Block p) a) l (more + 1) z (b ∷ ys) u) (sym waits)
          (subst (λ (n : ℕ). StopsBy S true (at (Block p) a) l n (waiting false into (Block (next_of p)) a) (b ∷ ys) u) (sym (add-one more))
          (call_stays S p a l i into way f es slots k deep memo filled call c.in-Enter.is c.requires.found more b ys u stop));
      long = search rules;
      kinds = c.call.ensures.kinds ∙ ap (λ (z : PlainLayer). z.kinds) filled.1;
    }
