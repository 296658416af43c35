use Rattle.std.proofs.Common.{◌≡◌, ◌++◌, ◌∷◌, [], length, sym, ◌∙◌, arith}
use Rattle.std.proofs.lemmas.Result.{err_from_is_err_and}
use Rattle.std.proofs.lemmas.List.{map_push, length-map}
use Rattle.token_scanner.specs.Words.{words, placed}
use Rattle.source_tree.specs.Source.{stmt, stmts}
use Rattle.procedure_parser.specs.Reading.{statement_at, block_at, many_at, goes_on}
use Rattle.procedure_parser.proofs.Many.{next_item, no_item, no_turn, item_fails}
use Rattle.procedure_parser.proofs.block.+blocks.Goals as goal

pub statements-loop-preserved : goal.statements-loop-preserved
statements-loop-preserved t c =
    let e : stmts c.push.new.self.items ≡ stmts c.loop.all.items ++ stmt c.in_ok-next.next ∷ [] = rw c.in_ok-push.ensures.items (map_push _ c.loop.all.items c.in_ok-next.next) in
    rw e (next_item goes_on (statement_at (block_at c.args.nested)) (stmts c.loop.all.items) (length (words c.args.tokens.now)) c.loop.counter (words c.loop.rest.now) (many_at goes_on (statement_at (block_at c.args.nested)) (words c.args.tokens.now)) c.loop.invariant (let n = length-map c.args.tokens.now placed in omega (arith, n, c.loop-test.true)) (sym c.goes_on.ensures ∙ c.if-not-goes_on.false) (stmt c.in_ok-next.next) (words c.in_ok-next.after.now) c.in_ok-next.ensures)

pub statements-returns-in_err-next : goal.statements-returns-in_err-next
statements-returns-in_err-next t c =
    let p = err_from_is_err_and c.from_residual.result c.from_residual.ensures.1 in
    rw (p.1, p.2) (item_fails goes_on (statement_at (block_at c.args.nested)) (stmts c.loop.all.items) (length (words c.args.tokens.now)) c.loop.counter (words c.loop.rest.now) (many_at goes_on (statement_at (block_at c.args.nested)) (words c.args.tokens.now)) c.loop.invariant c.in_err-next.field-0.0 (let n = length-map c.args.tokens.now placed in omega (arith, n, c.loop-test.true)) (sym c.goes_on.ensures ∙ c.if-not-goes_on.false) c.in_err-next.ensures)

pub statements-returns-then-not-goes_on : goal.statements-returns-then-not-goes_on
statements-returns-then-not-goes_on t c = no_item goes_on (statement_at (block_at c.args.nested)) (stmts c.loop.all.items) (length (words c.args.tokens.now)) c.loop.counter (words c.loop.rest.now) (many_at goes_on (statement_at (block_at c.args.nested)) (words c.args.tokens.now)) c.loop.invariant (let n = length-map c.args.tokens.now placed in omega (arith, n, c.loop-test.true)) (sym c.goes_on.ensures ∙ c.if-not-goes_on.true)

pub statements-returns : goal.statements-returns
statements-returns t c = no_turn goes_on (statement_at (block_at c.args.nested)) (stmts c.loop.all.items) (length (words c.args.tokens.now)) c.loop.counter (words c.loop.rest.now) (many_at goes_on (statement_at (block_at c.args.nested)) (words c.args.tokens.now)) c.loop.invariant (let n = length-map c.args.tokens.now placed in omega (arith, n, c.loop-test.false))
