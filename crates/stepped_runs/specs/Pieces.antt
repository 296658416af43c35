-- The steps of a strand with its deque, by numbers.
use Rattle.std.specs.Prelude.{ℕ, zero, suc, ◌+◌, nat_lt, ℤ, Bool, true, false, ◌&&◌, List, [], ◌∷◌, ◌++◌, length, Option, Some, None, Result, Ok, Err}
use Rattle.meaning.specs.Outcome.{Place}
use Rattle.meaning.specs.SmallStep.{same_name}
use Rattle.meaning.specs.Strands.{State, Held, Ended, Stalled, BookStep, Split, End, Stall, Finish}
use Rattle.meaning.specs.Strands as strands
use Rattle.positions.specs.Setting.{Setting}
use Rattle.positions.specs.declared.phase.Phase.{Phase}
use Rattle.positions.specs.declared.phase.Phase.TheVariants.{AtSpawn, Leaving, Broken}
use Rattle.positions.specs.declared.phase.Paused.{Paused}
use Rattle.positions.specs.declared.phase.Paused.TheVariants as paused
use Rattle.positions.specs.Activations.{PlainActivation}
use Rattle.positions.specs.Strands.{PlainStrand, PlainTask}
use Rattle.positions.specs.Advance.{advanced, pause_of, kits_then}
use Rattle.positions.specs.Moves.{detached, inlined as inlined_strand, returned_of, resumed, stolen as stolen_strand, joined, lowest_alone}
use Rattle.positions.specs.Simulation.{place_of as place_behind}
use Rattle.numbered_runs.specs.declared.refusal.Refusal.{Refusal}
use Rattle.numbered_runs.specs.declared.refusal.Refusal.TheVariants.{Nothing, NoKit, NotThere}

-- a strand, its continuations, the newest first, and who holds it or as what it was laid down
pub record PlainPiece : Type 0 where
  pub strand : PlainStrand
  pub deque : List PlainTask
  pub state : State

-- the place after which a strand begins
abbrev pub place_of : PlainPiece → Place
place_of p = place_behind p.strand.start p.strand.path

abbrev pub is_held_by : ℕ → PlainPiece → Bool
is_held_by w p = strands.holds_by w p.state

-- what a step makes of the piece that it is taken on: the pieces in its place, the free kits, and what the history notes
pub record Change : Type 0 where
  pub pieces : List PlainPiece
  pub kits : ℕ
  pub noted : List BookStep

abbrev pub alone : ℕ → PlainPiece → Result Change Refusal
alone kits p = Ok (record { pieces = p ∷ []; kits = kits; noted = [] })

-- the strand after a small step; the kits of the layers that it opened or closed are taken or given back
abbrev pub worked_to : PlainStrand → ℕ → PlainPiece → Result Change Refusal
worked_to s kits p = alone (kits_then p.strand.lower s.lower kits) (record p { strand = s })

-- ---- push, inline, pop

abbrev pub pushed_over : List PlainActivation → ℕ → PlainPiece → Result Change Refusal
pushed_over [] kits p = Err NotThere
pushed_over (parent ∷ below) kits p =
    alone kits (record p {
      strand = detached p.strand;
      deque = record { place = p.strand.path; top = parent; below = below } ∷ p.deque;
    })

abbrev pub pushed_at : Phase → ℕ → PlainPiece → Result Change Refusal
pushed_at AtSpawn kits p = pushed_over p.strand.below kits p
pushed_at _ kits p = Err NotThere

-- at a spawn: the continuation goes to the deque, and the strand goes on with the child
abbrev pub pushed : ℕ → PlainPiece → Result Change Refusal
pushed kits p = pushed_at p.strand.phase kits p

abbrev pub inlined_at : Phase → ℕ → PlainPiece → Result Change Refusal
inlined_at AtSpawn kits p = alone kits (record p { strand = inlined_strand p.strand })
inlined_at _ kits p = Err NotThere

-- at a spawn: the child is a call
abbrev pub inlined : ℕ → PlainPiece → Result Change Refusal
inlined kits p = inlined_at p.strand.phase kits p

abbrev pub popped_of : List PlainTask → ℕ → PlainPiece → Result Change Refusal
popped_of [] kits p = Err Nothing
popped_of (task ∷ tasks) kits p =
    alone kits (record p { strand = resumed task p.strand; deque = tasks })

abbrev pub popped_by : Option ℤ → ℕ → PlainPiece → Result Change Refusal
popped_by None kits p = Err NotThere
popped_by (Some v) kits p = popped_of p.deque kits p

-- the spawned child has returned: on with the newest continuation
abbrev pub popped : ℕ → PlainPiece → Result Change Refusal
popped kits p = popped_by (returned_of p.strand) kits p

-- ---- laying down

abbrev pub laid : ℕ → PlainPiece → PlainStrand → State → (Place → BookStep) → Result Change Refusal
laid kits p s state step =
    Ok (record {
      pieces = record { strand = s; deque = []; state = state } ∷ [];
      kits = kits;
      noted = step (place_of p) ∷ [];
    })

-- a strand is laid down where its holder has nothing to do with it; a faulted one gives up its deque and keeps its lowest layer alone
abbrev pub stalled_at : Paused → List PlainTask → ℕ → PlainPiece → Result Change Refusal
stalled_at paused.Faulted ks kits p =
    laid (kits + length p.strand.lower) p (lowest_alone p.strand) strands.Faulted strands.Fault
stalled_at paused.AtSync [] kits p = laid kits p p.strand Stalled Stall
stalled_at paused.Returned [] kits p = laid kits p p.strand Ended End
stalled_at paused.Finished [] kits p = laid kits p p.strand strands.Finished Finish
stalled_at _ ks kits p = Err NotThere

-- ---- steal

-- the oldest of the continuations, behind the younger ones
abbrev pub oldest : List PlainTask → PlainTask → List PlainTask → List PlainTask × PlainTask
oldest younger k [] = (younger, k)
oldest younger k (j ∷ ks) = oldest (younger ++ k ∷ []) j ks

-- ---- fold

abbrev pub may_join_at : Phase → PlainPiece → PlainPiece → Bool
may_join_at (Broken f) l r = true
may_join_at (Leaving v) l r = same_name l.strand.path (place_of r)
may_join_at _ l r = false

-- the left is ended or faulted, the right stalled or faulted, and an ended left is the child behind which the right begins
abbrev pub may_fold : PlainPiece → PlainPiece → Bool
may_fold l r = strands.done l.state && strands.waits r.state && may_join_at l.strand.phase l r

-- the two as one strand, held by the worker
abbrev pub folded : ℕ → PlainPiece → PlainPiece → PlainPiece
folded w l r = record { strand = joined l.strand r.strand; deque = []; state = Held w }

module _ (setting : Setting) where
  abbrev pub worked_at : Paused → ℕ → PlainPiece → Result Change Refusal
  worked_at paused.Working kits p = worked_to (advanced setting (nat_lt 0 kits) p.strand) kits p
  worked_at _ kits p = Err NotThere

  -- one small step
  abbrev pub worked : ℕ → PlainPiece → Result Change Refusal
  worked kits p = worked_at (pause_of setting.codes p.strand) kits p

  abbrev pub stalled : ℕ → PlainPiece → Result Change Refusal
  stalled kits p = stalled_at (pause_of setting.codes p.strand) p.deque kits p

  -- the strand of a continuation, held by the thief
  abbrev pub begun_by : ℕ → PlainTask → PlainPiece
  begun_by thief task = record {
    strand = stolen_strand setting.codes setting.kinds task;
    deque = [];
    state = Held thief;
  }

  -- a thief's strand stands directly after its victim's
  abbrev pub robbed : ℕ → ℕ → PlainPiece → List PlainTask × PlainTask → Result Change Refusal
  robbed thief kits p taken =
      Ok (record {
        pieces = record p { deque = taken.0 } ∷ begun_by thief taken.1 ∷ [];
        kits = kits;
        noted = Split (place_of p) taken.1.place thief ∷ [];
      })

  abbrev pub robbed_if : ℕ → ℕ → PlainPiece → List PlainTask × PlainTask → Result Change Refusal
  robbed_if thief zero p taken = Err NoKit
  robbed_if thief (suc kits) p taken = robbed thief kits p taken

  abbrev pub stolen_of : ℕ → ℕ → PlainPiece → List PlainTask → Result Change Refusal
  stolen_of thief kits p [] = Err Nothing
  stolen_of thief kits p (k ∷ ks) = robbed_if thief kits p (oldest [] k ks)

  -- the oldest continuation and a kit
  abbrev pub stolen_from : ℕ → ℕ → PlainPiece → Result Change Refusal
  stolen_from thief kits p = stolen_of thief kits p p.deque
