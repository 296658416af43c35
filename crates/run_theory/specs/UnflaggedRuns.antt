-- Runs whose instances carry no flag: a layer closes where a test of names says that the top layer is that of the instance that returns.
use Rattle.std.specs.Prelude.{◌≡◌, ℕ, nat_lt, ◌&&◌, false, List, [], ◌∷◌, map, Option, Some, None}
use Rattle.meaning.specs.Tree.{Name, read, Body, step}
use Rattle.meaning.specs.Tables.{Tables}
use Rattle.meaning.specs.Records.{Revised}
use Rattle.meaning.specs.SmallStep.{is_entry, blocks, running, Step, micro}
use Rattle.meaning.specs.Layers.{bottom}
use Rattle.meaning.specs.LayeredStrand.{LayeredStrand}
use Rattle.meaning.specs.Tallies.{Tally, valid_record}
use Rattle.meaning.specs.Schedules.{Memory, Piece, RunState, RunStep, Change, work, push, inline, pop, stall, steal, fold, first_state}
use Rattle.meaning.specs.Schedules.{changed, worked_by, after_step, or_same, path, end_of}
use Rattle.trail_theory.specs.Order.{Every}
use Rattle.trail_theory.specs.Right.{IsOneLayer}
use Rattle.trail_theory.specs.OwnLayers.{TopTest, frame_by, by_name}
use Rattle.trail_theory.specs.Unflagged.{unflagged, unflagged_continuation, unflagged_step}

-- ---- without flags

abbrev pub unflagged_piece : Piece → Piece
unflagged_piece p = record { strand = unflagged p.strand; deque = map unflagged_continuation p.deque; state = p.state; tally = p.tally }

abbrev pub unflagged_run : RunState → RunState
unflagged_run s = record { pieces = map unflagged_piece s.pieces; kits = s.kits; history = s.history }

-- what a step comes to, where it is taken
abbrev pub unflagged_after : Option RunState → Option RunState
unflagged_after None = None
unflagged_after (Some s) = Some (unflagged_run s)

-- off a strand's entry, the flag of an instance that returns is the one that its name gives it
abbrev pub IsToldByName : Piece → Type 0
IsToldByName p = is_entry p.strand.start p.strand.frame.instance ≡ false → by_name p.strand p.tally ≡ p.strand

-- a strand that stands at a read of a reducer has one layer
abbrev pub ReadsByOne : Piece → Type 0
ReadsByOne p = (n x : ℕ) (r : Name) (b : Body) (bs : List Body) → p.strand.phase ≡ running (blocks (step n (read x r) b ∷ bs)) → IsOneLayer p.strand.layers

module _ (program : Revised) (tables : Tables) (memory : Memory) where
  -- so it is after any steps
  abbrev pub FlagsAreTold : Type 0
  FlagsAreTold = (kits : ℕ) (es : List RunStep) → Every IsToldByName (path program tables memory (first_state program.tree kits) es).pieces

  abbrev pub PathsReadByOne : Type 0
  PathsReadByOne = (kits : ℕ) (es : List RunStep) → Every ReadsByOne (path program tables memory (first_state program.tree kits) es).pieces

  -- ---- steps of a run without flags

  module _ (test : TopTest) where
    -- the small step, in which an instance that returns has the flag that the test gives it, and a read gives the bottom layer's value
    abbrev pub small_step : ℕ → LayeredStrand → Tally → Step
    small_step kits s t = micro program.tree tables (valid_record program tables memory.records) (memory.recording && nat_lt 0 kits)
        (bottom s.layers) s.start (frame_by test s.phase t.opened s.frame) s.phase s.under

    abbrev pub worked_with : ℕ → Piece → Option Change
    worked_with kits p = worked_by program tables memory kits p (unflagged_step (small_step kits p.strand p.tally))

    -- no other step asks for a flag
    abbrev pub step_by : RunState → RunStep → Option RunState
    step_by s (work w) = changed w (worked_with s.kits) [] s.pieces s.history
    step_by s (push w) = after_step program tables memory s (push w)
    step_by s (inline w) = after_step program tables memory s (inline w)
    step_by s (pop w) = after_step program tables memory s (pop w)
    step_by s (stall w) = after_step program tables memory s (stall w)
    step_by s (steal t v) = after_step program tables memory s (steal t v)
    step_by s (fold w q) = after_step program tables memory s (fold w q)

    abbrev pub path_by : RunState → List RunStep → RunState
    path_by s [] = s
    path_by s (e ∷ es) = path_by (or_same program tables memory s (step_by s e)) es

    -- after any steps, each step is taken without flags just where it is taken with them, and comes to the same, flags aside
    abbrev pub StepsBy : Type 0
    StepsBy = (kits : ℕ) (es : List RunStep) (e : RunStep)
        → let s = path program tables memory (first_state program.tree kits) es in step_by (unflagged_run s) e
        ≡ unflagged_after (after_step program tables memory s e)

    -- so a run without flags comes to the same states
    abbrev pub PathsBy : Type 0
    PathsBy = (kits : ℕ) (es : List RunStep) → let s = first_state program.tree kits in path_by s es ≡ unflagged_run (path program tables memory s es)

    -- and to the same end
    abbrev pub EndsBy : Type 0
    EndsBy = (kits : ℕ) (es : List RunStep) → let s = first_state program.tree kits in end_of (path_by s es) ≡ end_of (path program tables memory s es)

    pub record RunsBy : Type 0 where
      pub steps : StepsBy
      pub paths : PathsBy
      pub ends : EndsBy
