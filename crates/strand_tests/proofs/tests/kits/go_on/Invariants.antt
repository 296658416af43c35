use Rattle.std.proofs.Common.{◌≡◌, ◌+◌, ◌≤◌, suc, length, List}
use Rattle.std.specs.Prelude.{Contains}
use Rattle.monoid_laws.specs.declared.Kind.{Kind}
use Rattle.strand_tests.proofs.tests.kits.go_on.Given as goal

abbrev pub invariant-loop : goal.invariant-loop
invariant-loop g l = (l.strand.layer.kinds ≡ l.fn.input.program.now.kinds) × ((k : List Kind) → Contains l.kits.pool.kits k → k ≡ l.fn.input.program.now.kinds) × (suc (length l.strand.lower) + length l.kits.pool.kits ≤ l.kits.pool.total)
