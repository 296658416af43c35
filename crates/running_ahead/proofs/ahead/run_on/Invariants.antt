use Rattle.std.proofs.Common.{◌≡◌}
use Rattle.activations.specs.Given.{lent}
use Rattle.running_ahead.specs.Ahead.{IsAhead}
use Rattle.running_ahead.proofs.ahead.run_on.Given as goal

abbrev pub invariant-loop : goal.invariant-loop
invariant-loop g l = record {
  ahead : IsAhead (lent l.setting) l.fn.machine l.machine;
  same : l.spawning ≡ l.fn.spawning;
}
