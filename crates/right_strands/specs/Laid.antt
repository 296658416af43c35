-- Strands that are laid down, and the answer of the last one.
use Rattle.std.specs.Prelude.{◌≡◌, ℕ, Bool, true, false, List, [], map}
use Rattle.monoid_laws.specs.Kinds.{meaning}
use Rattle.meaning.specs.Elision.{Answer, Finished, Faulted, from_scratch}
use Rattle.meaning.specs.SmallStep.{same_name}
use Rattle.linked_program.specs.declared.code.Code.{Code}
use Rattle.record_theory.specs.Record.{PlainRecord}
use Rattle.positions.specs.declared.phase.Paused.{Paused}
use Rattle.positions.specs.declared.phase.Paused.TheVariants as paused
use Rattle.positions.specs.Setting.{Setting}
use Rattle.positions.specs.Advance.{pause_of}
use Rattle.positions.specs.Simulation.{place_of}
use Rattle.positions.specs.Strands.{PlainStrand}
use Rattle.positions.specs.Stands.{named_fault}
use Rattle.positions.specs.Moves.{lowest_alone}
use Rattle.positions.specs.Tallies.{PlainTally}
use Rattle.numbered_runs.specs.News.{HasCounted, HaveNews}
use Rattle.positions.specs.declared.answer.RunAnswer.{RunAnswer}
use Rattle.positions.specs.declared.answer.RunAnswer.TheVariants as answer
use Rattle.right_strands.specs.Remembering.{Remembers, recalling}
use Rattle.strand_list.specs.declared.laid_state.LaidState.{LaidState}
use Rattle.strand_list.specs.declared.laid_state.LaidState.TheVariants as laid_state

-- a strand that is laid down, and as what
pub record PlainPiece : Type 0 where
  pub strand : PlainStrand
  pub state : LaidState

-- the point at which it is
abbrev pub paused_as : LaidState → Paused
paused_as laid_state.Ended = paused.Returned
paused_as laid_state.Stalled = paused.AtSync
paused_as laid_state.Faulted = paused.Faulted
paused_as laid_state.Finished = paused.Finished

-- a strand with a fault keeps its lowest layer alone
abbrev pub HasLayersOf : LaidState → PlainStrand → Type 0
HasLayersOf laid_state.Faulted s = s.lower ≡ []
HasLayersOf _ s = Unit {0}

pub record IsPausedAs (codes : List Code) (r : LaidState) (s : PlainStrand) : Type 0 where
  pub at : pause_of codes s ≡ paused_as r
  pub layers : HasLayersOf r s

-- what is laid down of a strand
abbrev pub laid_as : LaidState → PlainStrand → PlainStrand
laid_as laid_state.Faulted s = lowest_alone s
laid_as _ s = s

-- ---- the last piece

abbrev pub ends_as : LaidState → PlainStrand → Bool
ends_as laid_state.Finished s = true
ends_as laid_state.Faulted s = same_name (place_of s.start s.path) []
ends_as _ s = false

-- main is over, or the run's first fault is there
abbrev pub ends_run : PlainPiece → Bool
ends_run p = ends_as p.state p.strand

-- memory was refused, or it is the answer of a run that is over
abbrev pub IsGiven : RunAnswer → Type 0
IsGiven answer.Unfinished = ⊥
IsGiven answer.NoKit = ⊥
IsGiven _ = Unit {0}

module _ (setting : Setting) where
  -- the answer that the elision gives, want of memory aside
  abbrev pub IsElision : Answer → RunAnswer → Type 0
  IsElision a answer.Unfinished = Unit {0}
  IsElision a answer.NoMemory = Unit {0}
  IsElision a answer.NoKit = Unit {0}
  IsElision (Finished v worths) (answer.Finished w got n m k) = (w ≡ v) × (map meaning got.items ≡ worths)
  IsElision (Finished v worths) (answer.Fault f) = ⊥
  IsElision (Faulted k) (answer.Finished w got n m j) = ⊥
  IsElision (Faulted k) (answer.Fault f) = named_fault setting f ≡ k

  -- the answer of the elision from scratch
  abbrev pub AnswersElision : RunAnswer → Type 0
  AnswersElision given = IsElision (from_scratch setting.program.tree setting.tables) given

-- ---- counts and new records

-- those counts, and those new records
abbrev pub tally_of : ℕ → ℕ → ℕ → List PlainRecord → PlainTally
tally_of executed reused unrecorded made = record { opened = []; made = made; executed = executed; reused = reused; unrecorded = unrecorded }

-- where the run has finished, it has counted the needed instances, whichever sound records its records stand for, and its new records are sound and hold now
abbrev pub HasRecorded : Setting → RunAnswer → List PlainRecord → Type 0
HasRecorded setting (answer.Finished v values n m k) made =
    (s : Remembers setting) → HasCounted (recalling setting s) (tally_of n m k made) × HaveNews (recalling setting s) (tally_of n m k made)
HasRecorded setting _ made = Unit {0}
