-- Strands and continuations as plain values, by numbers.
use Rattle.std.specs.Prelude.{◌≡◌, ℕ, ◌-◌, ◌==◌, ℤ, Bool, false, List, length, take}
use Rattle.positions.specs.declared.phase.Phase.{Phase}
use Rattle.positions.specs.declared.phase.Phase.TheVariants.{Broken}
use Rattle.positions.specs.declared.start.Start.{Start}
use Rattle.positions.specs.declared.start.Start.TheVariants.{Root, Behind}
use Rattle.positions.specs.Activations.{PlainActivation}
use Rattle.positions.specs.Layers.{PlainLayer}
use Rattle.positions.specs.Tallies.{PlainTally}

-- where it begins, its topmost layer and those below it, its topmost instance with its whole name, those that wait below it,
-- what the topmost does next, the arguments of the memo instance that was called or spawned last, and what was counted and
-- recorded. At a spawn the child stands on top already
pub record PlainStrand : Type 0 where
  pub start : Start
  pub layer : PlainLayer
  pub lower : List PlainLayer
  pub path : List ℕ
  pub top : PlainActivation
  pub below : List PlainActivation
  pub phase : Phase
  pub arguments : List ℤ
  pub tally : PlainTally

-- a continuation: the name of the spawned child, the instance at the spawn, and those below it
pub record PlainTask : Type 0 where
  pub place : List ℕ
  pub top : PlainActivation
  pub below : List PlainActivation

-- the name of the instance that has entered the one of that name
abbrev pub shorter : List ℕ → List ℕ
shorter path = take (length path - 1) path

abbrev pub entry_by : Start → List ℕ → Bool
entry_by Root path = false
entry_by (Behind depth child) path = length path == depth

-- the strand begins in its topmost instance
abbrev pub is_entry : PlainStrand → Bool
is_entry s = entry_by s.start s.path

abbrev pub IsLayeredAt : Phase → PlainStrand → Type 0
IsLayeredAt (Broken f) s = Unit {0}
IsLayeredAt _ s = length s.tally.opened ≡ length s.lower

-- a strand without a fault has one layer more than there are open ones
abbrev pub IsLayered : PlainStrand → Type 0
IsLayered s = IsLayeredAt s.phase s
