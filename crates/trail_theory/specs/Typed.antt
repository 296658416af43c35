-- Updates of a reducer's kind, and the tables whose numbers fit 64 bits.
use Rattle.std.specs.Prelude.{◌≡◌, ℤ, List, map, Some, slice_get}
use Rattle.monoid_laws.specs.declared.Kind.{Kind}
use Rattle.monoid_laws.specs.Kinds.{Fits, IsWorth, IsTableMonoid}
use Rattle.meaning.specs.Tree.{Name, Tree}
use Rattle.meaning.specs.Tables.{Tables, cell_of}
use Rattle.meaning.specs.Outcome.{Accumulators, Event, Reads, Enters, Updates, Reuses, Begins, Syncs, Leaves, Faults, Marks, Spawns}
use Rattle.meaning.specs.Statements.{reducers, numbered, reading}
use Rattle.trail_theory.specs.Order.{Every}

abbrev pub kinds_of : Tree → List Kind
kinds_of program = map (λ r. r.kind) (reducers program)

-- each table of the program is that of a monoid
abbrev pub HasMonoids : Tree → Type 0
HasMonoids program = Every IsTableMonoid (kinds_of program)

-- an update names a reducer, its kind, and a value of it
abbrev pub IsTyped : List Kind → Event → Type 0
IsTyped kinds (Updates n kind w) = (slice_get kinds n ≡ Some kind) × IsWorth kind w
IsTyped kinds (Reads r) = Unit {0}
IsTyped kinds (Enters f args depth) = Unit {0}
IsTyped kinds (Reuses f args ws) = Unit {0}
IsTyped kinds (Begins n depth) = Unit {0}
IsTyped kinds (Syncs n) = Unit {0}
IsTyped kinds (Spawns n) = Unit {0}
IsTyped kinds (Leaves n v) = Unit {0}
IsTyped kinds (Faults k) = Unit {0}
IsTyped kinds (Marks f args b) = Unit {0}

-- the numbers in the tables fit
abbrev pub TablesFit : Tables → Type 0
TablesFit tables = (t : Name) (row : ℤ) (c : Name) (v : ℤ) → cell_of tables t row c ≡ Some v → Fits v

-- what `read` sees fits
abbrev pub SightFits : Tree → Accumulators → Type 0
SightFits program sight = (r : Name) → Fits (reading sight (numbered 0 (reducers program) r))
