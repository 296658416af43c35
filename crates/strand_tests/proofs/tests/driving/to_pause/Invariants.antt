use Rattle.std.proofs.Common.{◌≡◌, []}
use Rattle.strand_tests.proofs.tests.driving.to_pause.Given as goal

abbrev pub invariant-loop : goal.invariant-loop
invariant-loop g l = (l.strand.layer.kinds ≡ l.fn.strand.layer.kinds) × (l.strand.lower ≡ []) × (l.pool.kits ≡ []) × (l.pool.total ≡ 1)
