-- What contracts see of the entries of a deque.
use Rattle.std.specs.Prelude.{ℕ, List, map}
use Rattle.stealing_deques.specs.declared.entry.Entry.{Entry}
use Rattle.stealing_deques.specs.declared.entry.PlainEntry.{PlainEntry}
use Rattle.stealing_deques.specs.Order.{spot}

-- an entry, whose continuation has its place, its lowest instance and the beginning of its strand by these
abbrev pub entry : {T : Type 0} → (T → List ℕ) → (T → List ℕ) → (T → List ℕ) → Entry T → PlainEntry
entry place bottom since e = record { number = e.number; at = spot (place e.task) (since e.task); to = spot (bottom e.task) (since e.task) }

abbrev pub entries : {T : Type 0} → (T → List ℕ) → (T → List ℕ) → (T → List ℕ) → List (Entry T) → List PlainEntry
entries place bottom since items = map (entry place bottom since) items
