use Rattle.std.proofs.Common.{◌≡◌}
use Rattle.rerun_reasons.proofs.values.ask.Given as goal

abbrev pub invariant-loop-expression : goal.invariant-loop-expression
invariant-loop-expression l = l.found.first ≡ l.fn.found.first
