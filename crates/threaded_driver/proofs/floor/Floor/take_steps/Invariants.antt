use Rattle.std.proofs.Common.{◌≡◌, ◌+◌}
use Rattle.sync_fold.specs.Counts.{kits_of}
use Rattle.worker_seats.specs.Balances.{most}
use Rattle.worker_seats.specs.Spots.{spot_of}
use Rattle.threaded_driver.proofs.floor.Floor.take_steps.Given as goal

abbrev pub invariant-loop : goal.invariant-loop
invariant-loop g l = (spot_of l.strand.strand ≡ spot_of l.fn.strand.strand) × (kits_of l.strand.strand + l.supply.free ≡ most) × (l.seat ≡ l.fn.seat)
