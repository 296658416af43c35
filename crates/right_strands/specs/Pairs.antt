-- Two neighbours that may become one strand.
use Rattle.std.specs.Prelude.{◌≡◌, ◌⊎◌, ℤ, Bool, true, false, ◌&&◌, List, []}
use Rattle.monoid_laws.specs.Worth.{Worth}
use Rattle.monoid_laws.specs.Kinds.{operate_all}
use Rattle.meaning.specs.SmallStep.{same_name}
use Rattle.positions.specs.declared.start.Start.{Start}
use Rattle.positions.specs.declared.phase.Fault.{Fault}
use Rattle.positions.specs.declared.phase.Paused.TheVariants as paused
use Rattle.positions.specs.declared.phase.Phase.TheVariants.{Leaving, Broken}
use Rattle.positions.specs.Setting.{Setting}
use Rattle.positions.specs.Advance.{pause_of}
use Rattle.positions.specs.Simulation.{place_of}
use Rattle.positions.specs.Strands.{PlainStrand}
use Rattle.strand_moves.specs.Joins.{with_worths}
use Rattle.activations.specs.Waiting.{leaves_none}
use Rattle.right_strands.specs.Remembering.{Remembers, recalling}
use Rattle.right_strands.specs.Rightness.{IsRightBy}
use Rattle.strand_list.specs.declared.laid_state.LaidState.{LaidState}
use Rattle.strand_list.specs.declared.laid_state.LaidState.TheVariants as laid_state
use Rattle.right_strands.specs.Laid.{PlainPiece}
use Rattle.right_strands.specs.Waiting.{DecidesWaiting}

-- two strands that may become one
pub record PlainPair : Type 0 where
  pub left : PlainStrand
  pub right : PlainStrand

-- but for reducers' values that have moved from the right one to the left, and have the same product, two are as they were
pub record IsStill (old new : PlainPair) : Type 0 where
  pub left : new.left ≡ with_worths new.left.layer.worths old.left
  pub right : new.right ≡ with_worths new.right.layer.worths old.right
  pub product : operate_all old.left.layer.kinds new.left.layer.worths new.right.layer.worths
      ≡ operate_all old.left.layer.kinds old.left.layer.worths old.right.layer.worths

abbrev pub is_over : LaidState → Bool
is_over laid_state.Ended = true
is_over laid_state.Faulted = true
is_over _ = false

abbrev pub is_waiting : LaidState → Bool
is_waiting laid_state.Stalled = true
is_waiting laid_state.Faulted = true
is_waiting _ = false

-- the right one waits at a sync: joined, no name of it would wait for a child that ends after the left one's beginning
abbrev pub frees : LaidState → PlainStrand → PlainStrand → Bool
frees laid_state.Stalled l r = leaves_none l r
frees _ l r = true

-- the left one has ended: it names the child behind which the right one begins, and leaves no name of it waiting
abbrev pub may_follow : LaidState → PlainPiece → PlainPiece → Bool
may_follow laid_state.Ended l r = same_name (place_of r.strand.start r.strand.path) l.strand.path && frees r.state l.strand r.strand
may_follow _ l r = true

-- by their names two pieces may become one strand
abbrev pub may_pair : PlainPiece → PlainPiece → Bool
may_pair l r = may_follow l.state l r

abbrev pub StopsBroken : PlainStrand → Type 0
StopsBroken s = (f : Fault) × (s.phase ≡ Broken f)

module _ (setting : Setting) where
  -- but for the reducers' values, of which only the products are claimed, both are right; the left one is over or has a fault,
  -- the right one waits at a sync or has a fault, with one layer; and where no fault is there, the left one is over with the
  -- child behind which the right one begins
  pub record IsPair (l r : PlainStrand) : Type 0 where
    pub left_worths : List Worth
    pub right_worths : List Worth
    pub left : IsRightBy setting (with_worths left_worths l)
    pub right : IsRightBy setting (with_worths right_worths r)
    pub product : operate_all setting.kinds l.layer.worths r.layer.worths ≡ operate_all setting.kinds left_worths right_worths
    pub left_kinds : l.layer.kinds ≡ setting.kinds
    pub right_kinds : r.layer.kinds ≡ setting.kinds
    pub one_layer : r.lower ≡ []
    pub over : (pause_of setting.codes l ≡ paused.Returned) ⊎ StopsBroken l
    pub waits : (pause_of setting.codes r ≡ paused.AtSync) ⊎ StopsBroken r
    pub behind : (v : ℤ) → l.phase ≡ Leaving v → same_name (place_of r.start r.path) l.path ≡ true
    pub free : (v : ℤ) → l.phase ≡ Leaving v → pause_of setting.codes r ≡ paused.AtSync
        → DecidesWaiting setting (with_worths left_worths l) (with_worths right_worths r) true

-- what the type of a pair keeps, whichever sound records by name there are
pub record IsPairFrom (setting : Setting) (start : Start) (l r : PlainStrand) : Type 0 where
  pub pair : (k : Remembers setting) → IsPair (recalling setting k) l r
  pub begins : start ≡ l.start
