-- Which instance a strand has at its bottom, and which child a continuation waits for.
use Rattle.std.specs.Prelude.{◌≡◌, ℕ, ◌-◌, ℤ, List, [], ◌∷◌, length, take, Some}
use Rattle.positions.specs.declared.start.Start.{Start}
use Rattle.positions.specs.declared.start.Start.TheVariants.{Root, Behind}
use Rattle.positions.specs.Activations.{PlainActivation}
use Rattle.positions.specs.Strands.{PlainStrand, PlainTask, shorter}
use Rattle.positions.specs.Moves.{returned_of}
use Rattle.right_strands.specs.Rightness.{Pushed}
use Rattle.stealing_deques.specs.declared.entry.Spot.{Spot}
use Rattle.stealing_deques.specs.Order.{spot}

-- where a strand begins, as a list: each beginning has its own
abbrev pub numbers_of : Start → List ℕ
numbers_of Root = []
numbers_of (Behind depth child) = depth ∷ child ∷ []

-- the name of the lowest instance, where the topmost one has that name and those stand below it
abbrev pub lowest_name : List ℕ → List PlainActivation → List ℕ
lowest_name path below = take (length path - length below) path

-- a strand's lowest instance, and where the strand begins
abbrev pub spot_of : PlainStrand → Spot
spot_of s = spot (lowest_name s.path s.below) (numbers_of s.start)

-- the name of a continuation's lowest instance
abbrev pub bottom_of : PlainTask → List ℕ
bottom_of t = lowest_name (shorter t.place) t.below

-- a continuation's lowest instance
abbrev pub own_spot : Pushed → Spot
own_spot k = spot (bottom_of k.task) (numbers_of k.since)

-- the child that a continuation waits for
abbrev pub child_spot : Pushed → Spot
child_spot k = spot k.task.place (numbers_of k.since)

-- a strand's spawned child has returned
abbrev pub HasReturned : PlainStrand → Type 0
HasReturned s = (v : ℤ) × (returned_of s ≡ Some v)
