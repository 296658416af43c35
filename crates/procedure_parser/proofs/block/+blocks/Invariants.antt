use Rattle.std.proofs.Common.{◌≡◌, ◌-◌, ◌+◌, ◌*◌, length}
use Rattle.token_scanner.specs.Words.{words}
use Rattle.source_tree.specs.Source.{stmts}
use Rattle.procedure_parser.specs.Reading.{statement_at, block_at, many_at, many_go, goes_on, with_front}
use Rattle.procedure_parser.proofs.block.+blocks.Given as goal

abbrev pub invariant-statements-loop : goal.invariant-statements-loop
invariant-statements-loop l = with_front (stmts l.all.items) (many_go goes_on (statement_at (block_at l.nested)) (length (words l.tokens) - l.counter) (words l.rest)) ≡ many_at goes_on (statement_at (block_at l.nested)) (words l.tokens)

abbrev pub decreases-block : goal.decreases-block
decreases-block l = 8 * l.nested

abbrev pub decreases-otherwise : goal.decreases-otherwise
decreases-otherwise l = 8 * l.nested + 1

abbrev pub decreases-choice : goal.decreases-choice
decreases-choice l = 8 * l.nested + 2

abbrev pub decreases-keyword : goal.decreases-keyword
decreases-keyword l = 8 * l.nested + 3

abbrev pub decreases-statement : goal.decreases-statement
decreases-statement l = 8 * l.nested + 4

abbrev pub decreases-statements : goal.decreases-statements
decreases-statements l = 8 * l.nested + 5

abbrev pub decreases-body : goal.decreases-body
decreases-body l = 8 * l.nested + 6
