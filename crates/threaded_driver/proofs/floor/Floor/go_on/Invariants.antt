use Rattle.stealing_deques.specs.Order.{IsBoundTo}
use Rattle.std.proofs.Common.{◌≡◌, ◌+◌}
use Rattle.sync_fold.specs.Counts.{kits_of}
use Rattle.worker_seats.specs.Balances.{most}
use Rattle.worker_seats.specs.Spots.{spot_of}
use Rattle.threaded_driver.proofs.floor.Floor.go_on.Given as goal

abbrev pub invariant-loop : goal.invariant-loop
invariant-loop g l = IsBoundTo l.seat.here (spot_of l.strand.strand) × (kits_of l.strand.strand + l.supply.free ≡ most)
