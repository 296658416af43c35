use Rattle.std.proofs.Common.{◌≡◌, ◌<◌, true, None}
use Rattle.threaded_driver.specs.Finds.{is_left}
use Rattle.threaded_driver.proofs.life.seek.Given as goal

abbrev pub invariant-loop : goal.invariant-loop
invariant-loop g l = (goal.iterator-loop g).can_next l.iterator' × (goal.iterator-loop g).is_finite l.iterator' × (l.seat.here ≡ None) × (is_left l.found ≡ true → 0 < l.seat.left)
