use Rattle.std.proofs.Common.{◌≡◌, []}
use Rattle.strand_tests.proofs.tests.driving.go_on.Given as goal

abbrev pub invariant-loop-i : goal.invariant-loop-i
invariant-loop-i g l = (l.strand.layer.kinds ≡ l.fn.strand.layer.kinds) × (l.strand.lower ≡ []) × (l.pool.kits ≡ []) × (l.pool.total ≡ 1)
