use Rattle.std.proofs.Common.{◌≡◌}
use Rattle.positions.specs.declared.phase.Phase.TheVariants.{Running}
use Rattle.activations.specs.Given.{lent}
use Rattle.running_ahead.specs.Ahead.{IsAhead}
use Rattle.running_ahead.proofs.ahead.blocks_ahead.Given as goal

abbrev pub invariant-loop : goal.invariant-loop
invariant-loop g l = record {
  ahead : IsAhead (lent l.setting) l.fn.machine l.machine;
  running : l.machine.phase ≡ Running;
  same : l.spawning ≡ l.fn.spawning;
}
