use Rattle.stealing_deques.specs.Order.{IsBoundTo}
use Rattle.std.proofs.Common.{◌≡◌, ◌+◌}
use Rattle.sync_fold.specs.Counts.{kits_of}
use Rattle.worker_seats.specs.Balances.{most}
use Rattle.worker_seats.specs.Spots.{spot_of}
use Rattle.threaded_driver.proofs.floor.Floor.run_strand.Given as goal

abbrev pub invariant-loop : goal.invariant-loop
invariant-loop g l = (goal.iterator-loop g).can_next l.iterator' × (goal.iterator-loop g).is_finite l.iterator' × IsBoundTo l.seat.here (spot_of l.strand.strand) × (kits_of l.strand.strand + l.supply.free ≡ most)
