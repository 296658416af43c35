-- The elision beside the trail: its events are the trail's, without those that only the trail has.
use Rattle.std.specs.Prelude.{ℕ, ℤ, [], ◌∷◌, ◌≡◌, Option, Some, None, Ok, Err}
use Rattle.meaning.specs.Tree.{Tree}
use Rattle.meaning.specs.Outcome.{Log, Fault, Outcome, Reads, Enters, Updates, Reuses, Begins, Syncs, Leaves, Faults, Marks, Spawns, Out}
use Rattle.meaning.specs.Records.{Kept}
use Rattle.meaning.specs.Trail.{Trace}
use Rattle.meaning.specs.Layers.{SameNotes, notes, notes_of}

-- what the elision notes of the trail
abbrev pub forgotten : Log → Log
forgotten [] = []
forgotten (Reads r ∷ es) = Reads r ∷ forgotten es
forgotten (Enters f args d ∷ es) = Enters f args d ∷ forgotten es
forgotten (Updates n kind w ∷ es) = Updates n kind w ∷ forgotten es
forgotten (Reuses f args ws ∷ es) = forgotten es
forgotten (Begins n d ∷ es) = forgotten es
forgotten (Syncs n ∷ es) = forgotten es
forgotten (Spawns n ∷ es) = forgotten es
forgotten (Leaves n v ∷ es) = forgotten es
forgotten (Faults k ∷ es) = forgotten es
forgotten (Marks f args b ∷ es) = forgotten es

-- the first fault on a stretch of the trail
abbrev pub first_fault : Log → Option Fault
first_fault [] = None
first_fault (Faults k ∷ es) = Some k
first_fault (Reads r ∷ es) = first_fault es
first_fault (Enters f args d ∷ es) = first_fault es
first_fault (Updates n kind w ∷ es) = first_fault es
first_fault (Reuses f args ws ∷ es) = first_fault es
first_fault (Begins n d ∷ es) = first_fault es
first_fault (Syncs n ∷ es) = first_fault es
first_fault (Spawns n ∷ es) = first_fault es
first_fault (Leaves n v ∷ es) = first_fault es
first_fault (Marks f args b ∷ es) = first_fault es

-- what comes before it
abbrev pub before_fault : Log → Log
before_fault [] = []
before_fault (Faults k ∷ es) = []
before_fault (Reads r ∷ es) = Reads r ∷ before_fault es
before_fault (Enters f args d ∷ es) = Enters f args d ∷ before_fault es
before_fault (Updates n kind w ∷ es) = Updates n kind w ∷ before_fault es
before_fault (Reuses f args ws ∷ es) = Reuses f args ws ∷ before_fault es
before_fault (Begins n d ∷ es) = Begins n d ∷ before_fault es
before_fault (Syncs n ∷ es) = Syncs n ∷ before_fault es
before_fault (Spawns n ∷ es) = Spawns n ∷ before_fault es
before_fault (Leaves n v ∷ es) = Leaves n v ∷ before_fault es
before_fault (Marks f args b ∷ es) = Marks f args b ∷ before_fault es

-- an elision's piece is a stretch of the trail: the same value and events, or the stretch's first fault and the events before it
abbrev pub Fits : Out Fault ℤ → Log → Outcome → Type 0
Fits o es (Ok v) = (o ≡ record { log = forgotten es; answer = Ok v }) × (first_fault es ≡ None)
Fits o es (Err k) = (o.answer ≡ Err k) × ((o.log ≡ forgotten (before_fault es)) × (first_fault es ≡ Some k))

abbrev pub Matches : Out Fault ℤ → Trace → Type 0
Matches o r = Fits o r.events r.outcome

-- a record says what the elision of its key gives
abbrev pub SaysElision : Tree → Kept → Out Fault ℤ → ℕ → Type 0
SaysElision program k o depth = (o.answer ≡ Ok k.value) × SameNotes (notes program o.log) (notes_of k depth)
