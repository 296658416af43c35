use Rattle.std.proofs.Common.{◌≡◌, ◌+◌, arith}
use Rattle.source_tree.specs.Source.{stmt, stmts, stmts_of}
use Rattle.source_tree.specs.Lowering.{count, count_all}
use Rattle.source_tree.proofs.Counting.{count_next, count_if}
use Rattle.source_tree.proofs.layout.+laying.Goals as goal

pub choice-block-requires : goal.choice-block-requires
choice-block-requires t c = omega (arith, c.requires, c.decreases)

pub choice-block-requires-2 : goal.choice-block-requires-2
choice-block-requires-2 t c = omega (arith, c.requires, c.decreases, c.in_ok-first.ensures.counted)

pub block-statements-requires : goal.block-statements-requires
block-statements-requires t c = omega (arith, c.requires, c.decreases)

pub action-choice-requires : goal.action-choice-requires
action-choice-requires t c =
    let n = count_if c.args.statement.now c.in-If.field-0 c.in-If.condition c.in-If.first c.in-If.second c.in-If.is in
    let k : count (stmt c.args.statement.now) ≡ count_all (stmts_of (stmts c.deref-in-If.result.now)) + count_all (stmts_of (stmts c.deref-in-If-2.result.now)) + 1 = rw (c.deref-in-If.ensures.value, c.deref-in-If-2.ensures.value) n in
    omega (arith, c.requires, c.decreases, k)

pub statements-action-requires : goal.statements-action-requires
statements-action-requires t c =
    let n = count_next c.args.body.now c.loop-statement.statement-index c.statement-item.result c.loop-statement-test.true c.statement-item.is in
    omega (arith, c.requires, c.decreases, c.loop-statement.invariant.counted, c.loop-statement.invariant.within, n)
