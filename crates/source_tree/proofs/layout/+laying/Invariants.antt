use Rattle.std.proofs.Common.{◌≡◌, ◌+◌, ◌*◌, ◌≤◌, [], drop}
use Rattle.source_tree.specs.Source.{stmt, stmts, stmts_of}
use Rattle.source_tree.specs.Lowering.{count, count_all}
use Rattle.source_tree.specs.Layout.{laid, entries, flats}
use Rattle.source_tree.proofs.layout.+laying.Given as goal

abbrev pub decreases-action : goal.decreases-action
decreases-action l = 4 * count (stmt l.statement.now)

abbrev pub decreases-choice : goal.decreases-choice
decreases-choice l = 4 * (count_all (stmts_of (stmts l.first.now)) + count_all (stmts_of (stmts l.second.now))) + 3

abbrev pub decreases-block : goal.decreases-block
decreases-block l = 4 * count_all (stmts_of (stmts l.body.now)) + 2

abbrev pub decreases-statements : goal.decreases-statements
decreases-statements l = 4 * count_all (stmts_of (stmts l.body.now)) + 1

abbrev pub invariant-statements-loop-statement : goal.invariant-statements-loop-statement
invariant-statements-loop-statement l = record {
  within : count_all (stmts_of (stmts (drop l.statement-index l.body))) ≤ count_all (stmts_of (stmts l.body));
  counted : l.last + count_all (stmts_of (stmts (drop l.statement-index l.body))) ≡ l.fn.last + count_all (stmts_of (stmts l.body));
  made : laid ((l.pool, l.last, flats l.blocks.items), entries l.out.items) (stmts_of (stmts (drop l.statement-index l.body))) ≡ laid ((l.fn.pool, l.fn.last, flats l.fn.blocks.items), []) (stmts_of (stmts l.body));
}
