use Rattle.std.proofs.Common.{◌≡◌, ◌-◌}
use Rattle.token_scanner.specs.Words.{words}
use Rattle.procedure_parser.specs.Reading.{more_signed_at, with_front}
use Rattle.procedure_parser.proofs.initial.more_signed.Given as goal

abbrev pub invariant-loop : goal.invariant-loop
invariant-loop l = with_front l.all.items (more_signed_at (l.most - l.counter) (words l.rest)) ≡ with_front l.fn.all.items (more_signed_at l.most (words l.tokens))
