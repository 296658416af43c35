-- What a worker found.
use Rattle.std.specs.Prelude.{◌≡◌, Bool, true, false, Option, None}
use Rattle.right_strands.specs.Rightness.{PlainRight}
use Rattle.stealing_deques.specs.declared.entry.Spot.{Spot}
use Rattle.stealing_deques.specs.Order.{IsBoundTo}
use Rattle.worker_seats.specs.Spots.{spot_of}
use Rattle.threaded_driver.specs.declared.found.Found.{Found}
use Rattle.threaded_driver.specs.declared.found.Found.TheVariants.{Left, Nothing, Own, Folded, Stolen}

-- the worker has left
abbrev pub is_left : {J V : Type 0} → Found J V → Bool
is_left Left = true
is_left Nothing = false
is_left (Own s) = false
is_left (Folded s) = false
is_left (Stolen s) = false

-- the deque is bound to the strand's lowest instance, or to nothing where there is no strand
abbrev pub IsAt : {J V : Type 0} → Option Spot → Found J V → Type 0
IsAt here Left = Unit {0}
IsAt here Nothing = here ≡ None
IsAt here (Own s) = IsBoundTo here (spot_of s.strand)
IsAt here (Folded s) = IsBoundTo here (spot_of s.strand)
IsAt here (Stolen s) = IsBoundTo here (spot_of s.strand)
