-- Two strands that become one.
use Rattle.std.specs.Prelude.{List}
use Rattle.monoid_laws.specs.Worth.{Worth}
use Rattle.positions.specs.declared.phase.Phase.{Phase}
use Rattle.positions.specs.declared.phase.Phase.TheVariants.{Entering, Running, AtSpawn, Returning, Leaving, Broken}
use Rattle.positions.specs.Strands.{PlainStrand}

-- a strand that has ended, or has a fault
abbrev pub IsDone : Phase → Type 0
IsDone Entering = ⊥
IsDone Running = ⊥
IsDone AtSpawn = ⊥
IsDone (Returning v) = ⊥
IsDone (Leaving v) = Unit {0}
IsDone (Broken f) = Unit {0}

abbrev pub HasFault : Phase → Type 0
HasFault (Broken f) = Unit {0}
HasFault _ = ⊥

-- the strand with those values of the reducers
abbrev pub with_worths : List Worth → PlainStrand → PlainStrand
with_worths ws s = record s { layer = record s.layer { worths = ws } }
