use Rattle.std.proofs.Common.{◌≡◌}
use Rattle.threaded_driver.proofs.floor.Floor.take.Given as goal

abbrev pub invariant-loop : goal.invariant-loop
invariant-loop g l = (goal.iterator-loop g).can_next l.iterator' × (goal.iterator-loop g).is_finite l.iterator' × (l.seat.here ≡ l.fn.seat.here)
