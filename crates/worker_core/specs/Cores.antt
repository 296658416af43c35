-- A run by steps: why one is refused, and how the run ends.
use Rattle.std.specs.Prelude.{◌≡◌, ℕ, ◌<◌, ◌+◌, length, Bool, true, false, not, ◌&&◌, ◌||◌, List, [], ◌∷◌, Result, Err}
use Rattle.monoid_laws.specs.declared.Kind.{Kind}
use Rattle.view_pool.specs.Stock.{Stock}
use Rattle.meaning.specs.Strands.{State, Finished, Faulted}
use Rattle.input_tables.specs.Edited.{Edited}
use Rattle.linked_program.specs.Checked.{PlainChecked}
use Rattle.record_theory.specs.Record.{PlainRecord}
use Rattle.activations.specs.Given.{setting_over}
use Rattle.positions.specs.Setting.{Setting}
use Rattle.positions.specs.Layers.{lowest}
use Rattle.frames.specs.Answers.{Ending, underway, ending_of, IsAnswer}
use Rattle.positions.specs.declared.answer.RunAnswer.{RunAnswer}
use Rattle.positions.specs.declared.answer.RunAnswer.TheVariants as answer
use Rattle.numbered_runs.specs.Named.{run_step}
use Rattle.stepped_runs.specs.Pieces.{PlainPiece}
use Rattle.stepped_runs.specs.Runs.{PlainRun, first_run, stepped, are_workers, may_be_tried_again}
use Rattle.numbered_runs.specs.declared.step.Step.{Step}
use Rattle.numbered_runs.specs.declared.step.Step.TheVariants as step
use Rattle.numbered_runs.specs.declared.refusal.Refusal.{Refusal}
use Rattle.numbered_runs.specs.declared.refusal.Refusal.TheVariants as refusal
use Rattle.strand_lines.specs.Lines.{is_last}
use Rattle.worker_core.specs.Strands.{PlainStrands, run_of}
use Rattle.worker_core.specs.declared.piece.Move.TheVariants.{Work}
use Rattle.worker_core.specs.Folds.{LeavesFolded, LeavesMoved}

-- a run: its program, tables and records, its strands with the pool and the history, its workers, and whether memory was refused in the middle of a step
pub record PlainCore : Type 0 where
  pub program : PlainChecked
  pub tables : Edited
  pub records : List PlainRecord
  pub strands : PlainStrands
  pub workers : ℕ
  pub failed : Bool

-- the steps that take memory
abbrev pub takes_memory : Step → Bool
takes_memory (step.Inline w) = false
takes_memory (step.Pop w) = false
takes_memory _ = true

-- its program, tables and records
abbrev pub setting_in : PlainCore → Setting
setting_in c = setting_over c.program c.tables c.records

-- the step on the run of numbers
abbrev pub stepped_on : PlainCore → Step → Result PlainRun Refusal
stepped_on c s = stepped (setting_in c) (run_of c.strands) (run_step s)

-- whether there are such workers, in a run that has not failed
abbrev pub is_open_to : PlainCore → Step → Bool
is_open_to c s = not c.failed && are_workers c.workers (run_step s)

abbrev pub taken_if : Bool → PlainCore → Step → Result PlainRun Refusal
taken_if true c s = stepped_on c s
taken_if false c s = Err refusal.NotThere

-- one step of a run
abbrev pub taken : PlainCore → Step → Result PlainRun Refusal
taken c s = taken_if (is_open_to c s) c s

abbrev pub is_no_memory : Refusal → Bool
is_no_memory refusal.NoMemory = true
is_no_memory _ = false

-- memory was refused, and the step can't be tried again
abbrev pub is_failure : Step → Refusal → Bool
is_failure s e = is_no_memory e && not (may_be_tried_again (run_step s))

-- what a refused step leaves: the run has failed where memory was refused in the middle of a step
abbrev pub failed_by : Step → Refusal → PlainCore → PlainCore
failed_by s e c = record c { failed = is_failure s e || c.failed }

-- a fold that memory was refused for keeps the product of the two neighbours, and a small step the places and states of the
-- strands; nothing else changes the strands
abbrev pub StandsAfter : Step → Refusal → PlainStrands → PlainStrands → Type 0
StandsAfter (step.Fold w q) e s t = LeavesFolded e s t
StandsAfter (step.Work w) e s t = LeavesMoved Work e s t
StandsAfter _ _ s t = t ≡ s

-- how a run with those strands ends
abbrev pub ending_at : State → PlainPiece → Ending
ending_at Finished p = ending_of p.strand
ending_at Faulted p = ending_of p.strand
ending_at _ p = underway

-- how a run ends whose one strand is laid down so
abbrev pub IsEndOf : State → PlainPiece → RunAnswer → Type 0
IsEndOf st p given = IsAnswer (ending_at st p) (lowest p.strand.layer p.strand.lower).worths p.strand.tally given

abbrev pub IsEnd : Bool → List PlainPiece → RunAnswer → Type 0
IsEnd true ps given = given ≡ answer.NoMemory
IsEnd false (p ∷ []) given = IsEndOf p.state p given
IsEnd false _ given = given ≡ answer.Unfinished

-- how many executed instances of a run have no record
abbrev pub unrecorded_in : List PlainPiece → ℕ
unrecorded_in [] = 0
unrecorded_in (p ∷ ps) = p.strand.tally.unrecorded + unrecorded_in ps

-- an instance goes without a record only where no kit was free
abbrev pub PassesWithoutKit : PlainStrands → PlainStrands → Type 0
PassesWithoutKit s t = unrecorded_in s.pieces < unrecorded_in t.pieces → s.kits ≡ []

-- the records that one strand has made
abbrev pub made_in : List PlainPiece → List PlainRecord
made_in (p ∷ []) = p.strand.tally.made
made_in _ = []

-- those that are kept of a run with that answer
abbrev pub kept_of : RunAnswer → List PlainRecord → List PlainRecord
kept_of (answer.Finished v values n m k) made = made
kept_of _ made = []

-- the beginning of a run: main's strand, held by worker 0, with one kit of the pool
pub record IsFirstCore (program : PlainChecked) (tables : Edited) (records : List PlainRecord) (pool : Stock (List Kind)) (workers : ℕ)
    (core : PlainCore) : Type 0 where
  pub program_is : core.program ≡ program
  pub tables_are : core.tables ≡ tables
  pub records_are : core.records ≡ records
  pub run : run_of core.strands ≡ first_run program.codes program.kinds program.initials program.main (length pool.kits)
  pub total : core.strands.total ≡ pool.total
  pub workers_are : core.workers ≡ workers
  pub going : core.failed ≡ false

-- one strand is left, and it is laid down as finished or faulted
abbrev pub are_over : List PlainPiece → Bool
are_over (p ∷ []) = is_last p.state
are_over _ = false

-- there is no more to do: the run has come to its end, or has failed
abbrev pub is_over : PlainCore → Bool
is_over c = c.failed || are_over c.strands.pieces
