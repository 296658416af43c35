use Rattle.std.proofs.Common.{◌≡◌}
use Rattle.running_ahead.specs.Chains.{reach}
use Rattle.running_ahead.proofs.called_halves.levels.Given as goal

abbrev pub invariant-loop-level : goal.invariant-loop-level
invariant-loop-level l = record {
  most : l.most ≡ reach l.level l.grain;
}
