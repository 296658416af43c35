-- What a run on several workers is for the definitions: it stands for a run that their steps lead to, and its answer is the elision's.
use Rattle.std.specs.Prelude.{◌≡◌, ℕ, Bool, true, false, List, [], map, All, Option, Some, None}
use Rattle.monoid_laws.specs.Kinds.{meaning, IsMonoid}
use Rattle.meaning.specs.TreeView.{tree}
use Rattle.meaning.specs.Elision.{Answer, Finished, Faulted, from_scratch}
use Rattle.meaning.specs.Schedules.{RunState, end_of}
use Rattle.linked_program.specs.Checked.{PlainChecked, IsChecked}
use Rattle.input_tables.specs.Edited.{Edited}
use Rattle.record_theory.specs.Record.{PlainRecord}
use Rattle.record_theory.specs.InStep.{IsInStep}
use Rattle.record_theory.specs.Named.{HaveValues}
use Rattle.record_theory.specs.Commits.{put_records}
use Rattle.positions.specs.Setting.{Setting}
use Rattle.positions.specs.Stands.{fault_in}
use Rattle.positions.specs.declared.answer.RunAnswer.{RunAnswer}
use Rattle.positions.specs.declared.answer.RunAnswer.TheVariants as answer
use Rattle.numbered_runs.specs.Named.{run_step}
use Rattle.stepped_runs.specs.Stands.{StandsForUnflagged}
use Rattle.stepped_runs.specs.Ends.{HistoryGives}
use Rattle.stepped_runs.specs.Simulation.{IsPrepared, IsReached, IsStepOf, IsNoStepOf, IsFirstOf}
use Rattle.numbered_runs.specs.declared.step.Step.{Step}
use Rattle.numbered_runs.specs.Sound.{AreSoundFor, setting_by}
use Rattle.numbered_runs.specs.Recorded.{HasRecordedBy}
use Rattle.worker_core.specs.Strands.{PlainStrands, run_of}
use Rattle.worker_core.specs.Folds.{KeepsLines}
use Rattle.worker_core.specs.Cores.{PlainCore, is_open_to}
use Rattle.worker_core.specs.Going.{AreHeldBy}

-- it stands for a run of the definitions that some steps lead to
pub record IsOnPath (setting : Setting) (s : PlainStrands) : Type 0 where
  pub run : RunState
  pub reached : IsReached setting run
  pub stands : StandsForUnflagged setting (run_of s) run

-- the program was checked against the tables, both keep what the theory asks for, and the records are sound and in step with
-- the tables; and whichever sound records they stand for, the run is one of the definitions
pub record KeepsRun (program : PlainChecked) (tables : Edited) (records : List PlainRecord) (s : PlainStrands) : Type 0 where
  pub sound : AreSoundFor program records
  pub values : HaveValues program.kinds records
  pub in_step : IsInStep tables.tables records
  pub checked : IsChecked program
  pub monoids : All IsMonoid program.kinds
  pub prepared : (k : AreSoundFor program records) → IsPrepared (setting_by program tables records k)
  pub path : (k : AreSoundFor program records) → IsOnPath (setting_by program tables records k) s

-- a run that has failed has the places, states and history of one that is kept
abbrev pub StaysRun : Bool → PlainChecked → Edited → List PlainRecord → ℕ → PlainStrands → Type 0
StaysRun false program tables records n s = KeepsRun program tables records s × AreHeldBy n s
StaysRun true program tables records n s = (r : PlainStrands) × KeepsRun program tables records r × KeepsLines r s

-- the records of a run are sound
abbrev pub HasSound : PlainCore → Type 0
HasSound c = AreSoundFor c.program c.records

-- its program on its tables, with those sound records by name
abbrev pub recalling : (c : PlainCore) → HasSound c → Setting
recalling c sound = setting_by c.program c.tables c.records sound

-- the run stands for the beginning of one, with so many kits
abbrev pub IsBeginning : ℕ → PlainCore → Type 0
IsBeginning kits c = (k : HasSound c) → IsFirstOf (recalling c k) kits (run_of c.strands)

-- the run after the step stands for the definitions' step of the run before it
abbrev pub IsStep : Step → PlainCore → PlainCore → Type 0
IsStep step c d = (k : HasSound c) → IsStepOf (recalling c k) (run_step step) (run_of c.strands) (run_of d.strands)

-- there is no such worker, the run has failed, or there is no such step by the definitions
abbrev pub IsNoStep : Step → PlainCore → Type 0
IsNoStep step c = is_open_to c step ≡ true → (k : HasSound c) → IsNoStepOf (recalling c k) (run_step step) (run_of c.strands)

-- the history is legal, and gives the list of the strands
abbrev pub IsLegal : PlainCore → Type 0
IsLegal c = HistoryGives (run_of c.strands)

-- the answer that the elision gives, unless the run has not come to its end or has failed
abbrev pub IsElision : PlainChecked → Answer → RunAnswer → Type 0
IsElision program a answer.Unfinished = Unit {0}
IsElision program a answer.NoMemory = Unit {0}
IsElision program a answer.NoKit = Unit {0}
IsElision program (Finished v worths) (answer.Finished w got n m k) = (w ≡ v) × (map meaning got.items ≡ worths)
IsElision program (Finished v worths) (answer.Fault f) = ⊥
IsElision program (Faulted k) (answer.Finished w got n m j) = ⊥
IsElision program (Faulted k) (answer.Fault f) = fault_in (tree program.program) f ≡ k

-- the answer of the elision of its program on its tables, done from scratch
abbrev pub AnswersElision : PlainCore → RunAnswer → Type 0
AnswersElision c given = IsElision c.program (from_scratch (tree c.program.program) c.tables.tables) given

-- the run has come to its end, or memory was refused
abbrev pub IsGiven : RunAnswer → Type 0
IsGiven answer.Unfinished = ⊥
IsGiven answer.NoKit = ⊥
IsGiven _ = Unit {0}

-- the answer to a run of the definitions that has not come to its end, or has come to this one
abbrev pub IsEndBy : PlainChecked → Option Answer → RunAnswer → Type 0
IsEndBy program None given = given ≡ answer.Unfinished
IsEndBy program (Some a) given = IsGiven given × IsElision program a given

-- the answer of a run that has not failed says whether what it stands for has come to its end, and to which
abbrev pub ComesToEnd : PlainCore → RunAnswer → Type 0
ComesToEnd c given =
    c.failed ≡ false → (k : HasSound c) (x : RunState) → IsReached (recalling c k) x → StandsForUnflagged (recalling c k) (run_of c.strands) x
    → IsEndBy c.program (end_of x) given

-- ---- counts and new records

-- where the run has finished, it has counted the needed instances, and its new records are sound and hold now; else it leaves none
abbrev pub HasRecorded : PlainCore → RunAnswer → List PlainRecord → Type 0
HasRecorded c = HasRecordedBy c.program c.tables c.records

-- the records of the run with new ones put in are sound
abbrev pub StaySound : PlainCore → List PlainRecord → Type 0
StaySound c made = AreSoundFor c.program (put_records c.records made)
