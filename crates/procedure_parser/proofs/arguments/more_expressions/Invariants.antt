use Rattle.std.proofs.Common.{◌≡◌, ◌-◌, length}
use Rattle.token_scanner.specs.Words.{words, starts}
use Rattle.source_tree.specs.Source.{phrases}
use Rattle.token_scanner.specs.declared.token.Mark.TheVariants.{Comma}
use Rattle.procedure_parser.specs.Reading.{comma_expr_at, many_at, many_go, with_front}
use Rattle.procedure_parser.proofs.arguments.more_expressions.Given as goal

abbrev pub invariant-loop : goal.invariant-loop
invariant-loop l = with_front (phrases l.all.items) (many_go (starts Comma) comma_expr_at (length (words l.tokens) - l.counter) (words l.rest)) ≡ with_front (phrases l.fn.all.items) (many_at (starts Comma) comma_expr_at (words l.tokens))
