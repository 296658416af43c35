use Rattle.std.proofs.Common.{◌≡◌, ◌≤◌, ◌-◌, ◌+◌, ◌*◌}
use Rattle.std.specs.Prelude.{nat_eq}
use Rattle.token_scanner.specs.Words.{words}
use Rattle.source_tree.specs.Source.{phrase}
use Rattle.token_readers.specs.Reading.{additive, multiplicative}
use Rattle.procedure_parser.specs.Reading.{unary_at, term_at, inside_at, sum_at, chain_at}
use Rattle.procedure_parser.proofs.expression.+reading.Given as goal

abbrev pub decreases-inside : goal.decreases-inside
decreases-inside l = l.limits.more * 1000

abbrev pub decreases-row : goal.decreases-row
decreases-row l = l.limits.more * 1000 + 1

abbrev pub decreases-has : goal.decreases-has
decreases-has l = l.limits.more * 1000 + 2

abbrev pub decreases-after_name : goal.decreases-after_name
decreases-after_name l = l.limits.more * 1000 + 1

abbrev pub decreases-plain_atom : goal.decreases-plain_atom
decreases-plain_atom l = l.limits.more * 1000 + 3

abbrev pub decreases-atom : goal.decreases-atom
decreases-atom l = l.limits.more * 1000 + 4

abbrev pub decreases-unary : goal.decreases-unary
decreases-unary l = l.limits.more * 1000 + 8 * l.limits.room + 5

abbrev pub decreases-term : goal.decreases-term
decreases-term l = l.limits.more * 1000 + 8 * l.limits.room + 6

abbrev pub decreases-sum : goal.decreases-sum
decreases-sum l = l.limits.more * 1000 + 8 * l.limits.room + 7

abbrev pub decreases-against : goal.decreases-against
decreases-against l = l.limits.more * 1000 + 8 * l.limits.room + 8

abbrev pub decreases-expression : goal.decreases-expression
decreases-expression l = l.limits.more * 1000 + 8 * l.limits.room + 9

abbrev pub invariant-sum-loop : goal.invariant-sum-loop
invariant-sum-loop l = record {
  levels : l.left.levels ≤ l.limits.room;
  whole : chain_at additive (term_at (nat_eq l.limits.more 0) (inside_at l.limits.more)) (l.limits.room - l.counter) l.limits.room (phrase l.left.expr) (words l.rest) ≡ sum_at (nat_eq l.limits.more 0) (inside_at l.limits.more) l.limits.room (words l.tokens);
}

abbrev pub invariant-term-loop : goal.invariant-term-loop
invariant-term-loop l = record {
  levels : l.left.levels ≤ l.limits.room;
  whole : chain_at multiplicative (unary_at (nat_eq l.limits.more 0) (inside_at l.limits.more)) (l.limits.room - l.counter) l.limits.room (phrase l.left.expr) (words l.rest) ≡ term_at (nat_eq l.limits.more 0) (inside_at l.limits.more) l.limits.room (words l.tokens);
}
