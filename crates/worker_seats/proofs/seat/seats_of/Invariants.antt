use Rattle.std.proofs.Common.{◌≡◌, ◌+◌, All, length}
use Rattle.worker_seats.proofs.seat.seats_of.Given as goal

abbrev pub invariant-loop-owner : goal.invariant-loop-owner
invariant-loop-owner g l = (l.share.parts ≡ length l.owners.items) × (l.share.amount ≡ 0) × (length l.seats.items + length l.owners.items ≡ length l.fn.owners.items) × All (λ seat. seat.left ≡ 0) l.seats.items

abbrev pub decreases-loop-owner : goal.decreases-loop-owner
decreases-loop-owner g l = length l.owners.items
