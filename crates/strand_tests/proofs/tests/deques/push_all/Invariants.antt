use Rattle.std.proofs.Common.{[]}
use Rattle.stealing_deques.specs.Order.{spot, IsBoundTo}
use Rattle.strand_tests.specs.Names.{name}
use Rattle.strand_tests.proofs.tests.deques.push_all.Given as goal

abbrev pub invariant-loop-depth : goal.invariant-loop-depth
invariant-loop-depth g l = IsBoundTo l.owner.here (spot (name l.depth) [])
