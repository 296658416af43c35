-- What each function of the run answers, by the lemmas of Steps.
use Rattle.std.proofs.Common.{◌≡◌, ◌<◌, map, arith, sym, ◌∙◌, ap, Ok, pos, SFits, w64, of_z, rules}
use Rattle.std.specs.Prelude.{string_bytes}
use Rattle.std.proofs.lemmas.Int.{to_z-of_z, ints}
use Rattle.meaning.specs.TreeView.{term, proc}
use Rattle.meaning.specs.TreeView.{block as block_plain}
use Rattle.meaning.specs.Values.{value, values}
use Rattle.meaning.specs.Elision.{all_turns}
use Rattle.serial_oracle.specs.Keeping.{tree_in, tables_in, enters_in, revised_in, records_in}
use Rattle.serial_oracle.specs.Pieces.{site_of, job_in}
use Rattle.serial_oracle.specs.Results.{results, site_at}
use Rattle.serial_oracle.specs.Worths.{summary}
use Rattle.serial_oracle.proofs.Forgetting.{turn_quiet}
use Rattle.serial_oracle.proofs.Steps.{enter_deep, enter_absent, enter_plain, enter_memo, enter_troubled, enter_fails, enter_goes, choose_fails, choose_then, choose_else, loop_bad, loop_fails, loop_goes, rest_item, turn_troubled, turn_fails, turn_goes, turns_begin, turns_go, turns_fail}
use Rattle.serial_oracle.proofs.run.+run.Goals.{run_if-then-v-eq0, run_if-else-v-eq0}
use Rattle.serial_oracle.proofs.run.+run.Goals as goal

pub enter-returns-then-left-eq0 : goal.enter-returns-then-left-eq0
enter-returns-then-left-eq0 t c =
    let z : c.args.left ≡ 0 = omega arith in
    enter_deep (revised_in c.args.scope.now) (tables_in c.args.scope.now) (records_in c.args.scope.now) c.args.left (site_at c.args.here.now c.args.statement) c.args.name.now c.args.args.now c.stopped.result (summary c.args.scope.now c.args.journal.now) z c.stopped.ensures

pub enter-returns-in-None : goal.enter-returns-in-None
enter-returns-in-None t c =
    let nz : 0 < c.args.left = omega arith in
    enter_absent (revised_in c.args.scope.now) (tables_in c.args.scope.now) (records_in c.args.scope.now) c.args.left (site_at c.args.here.now c.args.statement) c.args.name.now c.args.args.now (summary c.args.scope.now c.args.journal.now) nz (sym c.in-None.ensures)

pub enter-returns-then-p : goal.enter-returns-then-p
enter-returns-then-p t c =
    let nz : 0 < c.args.left = omega arith in
    enter_memo (revised_in c.args.scope.now) (tables_in c.args.scope.now) (records_in c.args.scope.now) c.args.left (site_at c.args.here.now c.args.statement) c.args.name.now c.args.args.now (proc c.in-Some.p.now) c.run_memo.result (summary c.args.scope.now c.args.journal.now) (summary c.args.scope.now c.run_memo.new.journal) nz (sym c.in-Some.ensures) c.if-p.true c.run_memo.ensures

pub enter-returns-else-p : goal.enter-returns-else-p
enter-returns-else-p t c =
    let nz : 0 < c.args.left = omega arith in
    enter_plain (revised_in c.args.scope.now) (tables_in c.args.scope.now) (records_in c.args.scope.now) c.args.left (site_at c.args.here.now c.args.statement) c.args.name.now c.args.args.now (proc c.in-Some.p.now) c.run_instance.result (summary c.args.scope.now c.args.journal.now) (summary c.args.scope.now c.run_instance.new.journal) nz (sym c.in-Some.ensures) c.if-p.false c.run_instance.ensures

pub run_entry-returns-in-Err : goal.run_entry-returns-in-Err
run_entry-returns-in-Err t c =
    enter_troubled (tree_in c.args.scope.now) (tables_in c.args.scope.now) (enters_in c.args.scope.now c.args.left) (site_of c.args.entry.now) c.args.env.now.items c.args.x c.args.entry.now.callee.now (map term c.args.entry.now.arguments.now) c.in-Err.trouble c.at.result c.args.env.now.items (summary c.args.scope.now c.args.journal.now) (rw c.deref.ensures.value at c.in-Err.ensures) c.at.ensures

pub run_entry-returns-in-Err-enter : goal.run_entry-returns-in-Err-enter
run_entry-returns-in-Err-enter t c =
    let ev : (values (tables_in c.args.scope.now) c.args.env.now.items (map term c.args.entry.now.arguments.now)).answer ≡ Ok c.in-Ok.vs.items = rw c.deref.ensures.value at c.in-Ok.ensures in
    enter_fails (tree_in c.args.scope.now) (tables_in c.args.scope.now) (enters_in c.args.scope.now c.args.left) (site_of c.args.entry.now) c.args.env.now.items c.args.x c.args.entry.now.callee.now (map term c.args.entry.now.arguments.now) c.in-Ok.vs.items c.in-Err-enter.stop c.args.env.now.items (summary c.args.scope.now c.args.journal.now) (summary c.args.scope.now c.enter.new.journal) ev (rw c.deref-in-Ok.ensures.value at c.in-Err-enter.ensures)

pub run_entry-returns : goal.run_entry-returns
run_entry-returns t c =
    let ev : (values (tables_in c.args.scope.now) c.args.env.now.items (map term c.args.entry.now.arguments.now)).answer ≡ Ok c.in-Ok.vs.items = rw c.deref.ensures.value at c.in-Ok.ensures in
    let f : SFits w64 c.in-Ok-enter.v = search rules in
    rw (c.put_into.ensures, to_z-of_z w64 c.in-Ok-enter.v f) (enter_goes (tree_in c.args.scope.now) (tables_in c.args.scope.now) (enters_in c.args.scope.now c.args.left) (site_of c.args.entry.now) c.args.env.now.items c.args.x c.args.entry.now.callee.now (map term c.args.entry.now.arguments.now) c.in-Ok.vs.items c.in-Ok-enter.v (summary c.args.scope.now c.args.journal.now) (summary c.args.scope.now c.enter.new.journal) ev (rw c.deref-in-Ok.ensures.value at c.in-Ok-enter.ensures))

pub run_if-returns-in-Err : goal.run_if-returns-in-Err
run_if-returns-in-Err t c =
    choose_fails (tree_in c.args.scope.now) (tables_in c.args.scope.now) (enters_in c.args.scope.now c.args.left) (site_at (string_bytes c.args.p.now.name) c.args.choice.now.number) c.args.env.now.items (term c.args.choice.now.condition.now) (block_plain c.args.p.now.blocks.items c.args.levels c.args.choice.now.first) (block_plain c.args.p.now.blocks.items c.args.levels c.args.choice.now.second) c.in-Err.kind c.stopped.result c.args.env.now.items (summary c.args.scope.now c.args.journal.now) (sym (rw c.deref.ensures.value at c.in-Err.ensures)) (rw c.deref-in-Err.ensures at c.stopped.ensures)

pub run_if-returns-after-v-eq0 : goal.run_if-returns-after-v-eq0
run_if-returns-after-v-eq0 t c =
    let ev : (value (tables_in c.args.scope.now) c.args.env.now.items (term c.args.choice.now.condition.now)).answer ≡ Ok c.in-Ok.v = sym (rw c.deref.ensures.value at c.in-Ok.ensures) in
    let f : SFits w64 c.in-Ok.v = search rules in
    elim c.if-v-eq0.branch [ run_if-then-v-eq0 w ↦ (let z : c.in-Ok.v ≡ pos 0 = omega (arith, ints) in choose_then (tree_in c.args.scope.now) (tables_in c.args.scope.now) (enters_in c.args.scope.now c.args.left) (site_at (string_bytes c.args.p.now.name) c.args.choice.now.number) c.args.env.now.items (term c.args.choice.now.condition.now) (block_plain c.args.p.now.blocks.items c.args.levels c.args.choice.now.first) (block_plain c.args.p.now.blocks.items c.args.levels c.args.choice.now.second) c.in-Ok.v c.run_block.result c.run_block.new.env.items (summary c.args.scope.now c.args.journal.now) (summary c.args.scope.now c.run_block.new.journal) ev z (rw w.n-is at c.run_block.ensures)) | run_if-else-v-eq0 w ↦ choose_else (tree_in c.args.scope.now) (tables_in c.args.scope.now) (enters_in c.args.scope.now c.args.left) (site_at (string_bytes c.args.p.now.name) c.args.choice.now.number) c.args.env.now.items (term c.args.choice.now.condition.now) (block_plain c.args.p.now.blocks.items c.args.levels c.args.choice.now.first) (block_plain c.args.p.now.blocks.items c.args.levels c.args.choice.now.second) c.in-Ok.v c.run_block.result c.run_block.new.env.items (summary c.args.scope.now c.args.journal.now) (summary c.args.scope.now c.run_block.new.journal) ev (λ z. w.if-v-eq0.false (ap (of_z w64) z)) (rw w.n-is at c.run_block.ensures) ]

pub run_loop-returns-in-Err : goal.run_loop-returns-in-Err
run_loop-returns-in-Err t c =
    λ grain. loop_bad (tree_in c.args.scope.now) (tables_in c.args.scope.now) (enters_in c.args.scope.now c.args.left) (site_of c.args.entry.now) c.args.env.now c.args.counted.now.x (term c.args.counted.now.low.now) (term c.args.counted.now.high.now) grain c.args.entry.now.callee.now (map term c.args.entry.now.arguments.now) c.in-Err.kind c.stopped.result c.args.env.now (summary c.args.scope.now c.args.journal.now) c.in-Err.ensures c.stopped.ensures

pub run_loop-returns-in-Err-run_turns : goal.run_loop-returns-in-Err-run_turns
run_loop-returns-in-Err-run_turns t c =
    λ grain. loop_fails (tree_in c.args.scope.now) (tables_in c.args.scope.now) (enters_in c.args.scope.now c.args.left) (site_of c.args.entry.now) c.args.env.now c.args.counted.now.x (term c.args.counted.now.low.now) (term c.args.counted.now.high.now) grain c.args.entry.now.callee.now (map term c.args.entry.now.arguments.now) c.in-Ok.range.low c.in-Ok.range.count c.in-Err-run_turns.stop c.args.env.now (summary c.args.scope.now c.args.journal.now) (summary c.args.scope.now c.run_turns.new.journal) c.in-Ok.ensures (c.in-Err-run_turns.ensures grain)

pub run_loop-returns-in-Ok-run_turns : goal.run_loop-returns-in-Ok-run_turns
run_loop-returns-in-Ok-run_turns t c =
    λ grain. loop_goes (tree_in c.args.scope.now) (tables_in c.args.scope.now) (enters_in c.args.scope.now c.args.left) (site_of c.args.entry.now) c.args.env.now c.args.counted.now.x (term c.args.counted.now.low.now) (term c.args.counted.now.high.now) grain c.args.entry.now.callee.now (map term c.args.entry.now.arguments.now) c.in-Ok.range.low c.in-Ok.range.count (summary c.args.scope.now c.args.journal.now) (summary c.args.scope.now c.run_turns.new.journal) c.in-Ok.ensures (c.in-Ok-run_turns.ensures grain)

pub run_turn-returns-in-Err : goal.run_turn-returns-in-Err
run_turn-returns-in-Err t c =
    λ grain. turn_troubled (tree_in c.args.scope.now) (tables_in c.args.scope.now) (enters_in c.args.scope.now c.args.left) (job_in c.args.entry.now c.args.env.now c.args.turns.x grain c.args.turns.range.low) c.args.i c.in-Err.trouble c.at.result (summary c.args.scope.now c.args.journal.now) (c.in-Err.ensures (site_of c.args.entry.now) grain) c.at.ensures (turn_quiet (tree_in c.args.scope.now) (tables_in c.args.scope.now) (job_in c.args.entry.now c.args.env.now c.args.turns.x grain c.args.turns.range.low) c.args.i (summary c.args.scope.now c.args.journal.now))

pub run_turn-returns-in-Err-enter : goal.run_turn-returns-in-Err-enter
run_turn-returns-in-Err-enter t c =
    λ grain. turn_fails (tree_in c.args.scope.now) (tables_in c.args.scope.now) (enters_in c.args.scope.now c.args.left) (job_in c.args.entry.now c.args.env.now c.args.turns.x grain c.args.turns.range.low) c.args.i c.in-Ok.vs.items c.in-Err-enter.stop (summary c.args.scope.now c.args.journal.now) (summary c.args.scope.now c.enter.new.journal) (c.in-Ok.ensures (site_of c.args.entry.now) grain) (turn_quiet (tree_in c.args.scope.now) (tables_in c.args.scope.now) (job_in c.args.entry.now c.args.env.now c.args.turns.x grain c.args.turns.range.low) c.args.i (summary c.args.scope.now c.args.journal.now)) (rw c.deref.ensures.value at c.in-Err-enter.ensures)

pub run_turn-returns : goal.run_turn-returns
run_turn-returns t c =
    λ grain. turn_goes (tree_in c.args.scope.now) (tables_in c.args.scope.now) (enters_in c.args.scope.now c.args.left) (job_in c.args.entry.now c.args.env.now c.args.turns.x grain c.args.turns.range.low) c.args.i c.in-Ok.vs.items c.in-Ok-enter.field-0 (summary c.args.scope.now c.args.journal.now) (summary c.args.scope.now c.enter.new.journal) (c.in-Ok.ensures (site_of c.args.entry.now) grain) (turn_quiet (tree_in c.args.scope.now) (tables_in c.args.scope.now) (job_in c.args.entry.now c.args.env.now c.args.turns.x grain c.args.turns.range.low) c.args.i (summary c.args.scope.now c.args.journal.now)) (rw c.deref.ensures.value at c.in-Ok-enter.ensures)

pub run_statement-returns-in-Loop : goal.run_statement-returns-in-Loop
run_statement-returns-in-Loop t c =
    rw c.in-Loop.is (rw (c.deref-in-Loop.ensures, c.deref-in-Loop-2.ensures, c.deref-in-Loop-3.ensures.value, c.deref-in-Loop-4.ensures.value) at (c.run_loop.ensures c.in-Loop.field-3))

pub run_statements-loop-s-preserved : goal.run_statements-loop-s-preserved
run_statements-loop-s-preserved t c =
    c.loop-s.invariant ∙ rest_item (tree_in c.args.scope.now) (tables_in c.args.scope.now) (enters_in c.args.scope.now c.args.left) (string_bytes c.args.p.now.name) (block_plain c.args.p.now.blocks.items c.args.levels) c.args.statements.now c.loop-s.s-index c.s-item.result c.loop-s.env.items c.run_statement.new.env.items (summary c.args.scope.now c.loop-s.journal) (summary c.args.scope.now c.run_statement.new.journal) c.loop-s-test.true c.s-item.is (rw c.in-Ok-None.field-0-is at c.in-Ok-None.ensures)

pub run_turns-loop-i-init : goal.run_turns-loop-i-init
run_turns-loop-i-init t c =
    (omega arith, λ grain. turns_begin (tree_in c.args.scope.now) (tables_in c.args.scope.now) (enters_in c.args.scope.now c.args.left) (job_in c.args.entry.now c.args.env.now c.args.turns.x grain c.args.turns.range.low) c.args.turns.range.count (summary c.args.scope.now c.args.journal.now))

pub run_turns-returns-in-Err : goal.run_turns-returns-in-Err
run_turns-returns-in-Err t c =
    λ grain. turns_fail (tree_in c.args.scope.now) (tables_in c.args.scope.now) (enters_in c.args.scope.now c.args.left) (job_in c.args.entry.now c.args.env.now c.args.turns.x grain c.args.turns.range.low) c.args.turns.range.count c.loop-i.i c.in-Err.stop (summary c.args.scope.now c.loop-i.journal) (summary c.args.scope.now c.run_turn.new.journal) (results (tree_in c.args.scope.now) (all_turns (tree_in c.args.scope.now) (tables_in c.args.scope.now) (enters_in c.args.scope.now c.args.left) (job_in c.args.entry.now c.args.env.now c.args.turns.x grain c.args.turns.range.low) c.args.turns.range.count) (summary c.args.scope.now c.args.journal.now)) c.loop-i-test.true (c.loop-i.invariant.1 grain) (c.in-Err.ensures grain)

pub run_turns-loop-i-preserved : goal.run_turns-loop-i-preserved
run_turns-loop-i-preserved t c =
    let lt : c.loop-i.i < c.args.turns.range.count = c.loop-i-test.true in
    (omega (arith, lt), λ grain. c.loop-i.invariant.1 grain ∙ turns_go (tree_in c.args.scope.now) (tables_in c.args.scope.now) (enters_in c.args.scope.now c.args.left) (job_in c.args.entry.now c.args.env.now c.args.turns.x grain c.args.turns.range.low) c.args.turns.range.count c.loop-i.i (summary c.args.scope.now c.loop-i.journal) (summary c.args.scope.now c.run_turn.new.journal) lt (c.in-Ok.ensures grain))

pub run_statement-returns-in-Bind : goal.run_statement-returns-in-Bind
run_statement-returns-in-Bind t c =
    rw c.in-Bind.is (rw c.deref.ensures at (c.run_bind.ensures (tree_in c.args.scope.now) (summary c.args.scope.now c.args.journal.now)))

pub run_statement-returns-in-Return : goal.run_statement-returns-in-Return
run_statement-returns-in-Return t c =
    rw c.in-Return.is (rw (c.deref-in-Return.ensures, c.deref-in-Return-2.ensures.value) at (c.run_return.ensures (tree_in c.args.scope.now) (summary c.args.scope.now c.args.journal.now)))
