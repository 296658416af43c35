-- A strand that goes ahead by many small steps.
use Rattle.std.specs.Prelude.{◌≡◌, ◌≤◌, ℕ, suc, Bool, true, false, List}
use Rattle.meaning.specs.declared.tree.Way.{Way}
use Rattle.meaning.specs.declared.tree.Way.TheVariants.{Call, Spawn}
use Rattle.positions.specs.declared.phase.Phase.TheVariants.{Running}
use Rattle.positions.specs.Setting.{Setting}
use Rattle.positions.specs.Activations.{PlainActivation}
use Rattle.positions.specs.Layers.{PlainLayer}
use Rattle.positions.specs.Strands.{PlainStrand}
use Rattle.positions.specs.Advance.{advanced}
use Rattle.own_statements.specs.Paths.{HasRoomAbove, stacked, topped}
use Rattle.answered_loops.specs.Ways.{IsWay}
use Rattle.running_ahead.specs.declared.came.Came.{Came}
use Rattle.running_ahead.specs.declared.came.Came.TheVariants.{Nowhere, Back, Stays}
use Rattle.running_ahead.specs.declared.came.Gone.{Gone}
use Rattle.running_ahead.specs.declared.came.Gone.TheVariants as gone

-- small steps, and spawned children made calls, lead from the one to the other, and the layers below the topmost one, the kinds and what
-- is counted and recorded stay
pub record IsAhead (setting : Setting) (s t : PlainStrand) : Type 0 where
  pub way : IsWay setting s t
  pub lower : t.lower ≡ s.lower
  pub kinds : t.layer.kinds ≡ s.layer.kinds
  pub tally : t.tally ≡ s.tally

-- the strand goes ahead where its next small step has that meaning
abbrev pub GoesAhead : Setting → (PlainStrand → PlainStrand) → PlainStrand → PlainStrand → Type 0
GoesAhead setting meaning s t = ((kit : Bool) → meaning s ≡ advanced setting kit s) → IsAhead setting s t

-- the strand goes ahead where its next small step has that meaning, for which a free kit may matter
abbrev pub GoesAheadBy : Setting → (Bool → PlainStrand → PlainStrand) → PlainStrand → PlainStrand → Type 0
GoesAheadBy setting meaning s t = ((kit : Bool) → meaning kit s ≡ advanced setting kit s) → IsAhead setting s t

-- ---- an instance that was to be called

-- where it is spawned
abbrev pub is_spawned : Way → Bool
is_spawned Call = false
is_spawned Spawn = true

-- where nothing was done, and else
abbrev pub CameBy : Came → Type 0 → Type 0 → Type 0
CameBy Nowhere same ahead = same
CameBy Back same ahead = ahead
CameBy Stays same ahead = ahead

-- where one came back
abbrev pub OnBack : Came → Type 0 → Type 0
OnBack Back P = P
OnBack _ P = Unit {0}

-- ---- iterations of a loop, in whatever strand

-- a loop's instance and its layer come so far by iterations that are over
abbrev pub TurnsOn : Setting → PlainActivation → PlainLayer → PlainActivation → PlainLayer → Type 0
TurnsOn setting a l b m = (s : PlainStrand) → HasRoomAbove s → IsAhead setting (topped Running a l s) (topped Running b m s)

-- a loop's instance and its layer come so far by iterations, and the last one may stand above it, with those that it has called
abbrev pub TurnsTo : Setting → Gone → PlainActivation → PlainLayer → List PlainActivation → PlainActivation → PlainLayer → Type 0
TurnsTo setting gone.Nowhere a l xs b m = TurnsOn setting a l b m
TurnsTo setting gone.Back a l xs b m = TurnsOn setting a l b m
TurnsTo setting (gone.Stays n) a l xs b m = (s : PlainStrand) → HasRoomAbove s → IsAhead setting (topped Running a l s) (stacked (suc n) b xs m s)

-- where the last one stands above it, at most so many stand above that one
abbrev pub StaysBy : ℕ → Gone → Type 0
StaysBy most (gone.Stays n) = n ≤ most
StaysBy most _ = Unit {0}
