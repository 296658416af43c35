-- What the trail's marks count: the memo instances that no record answers, and those that one does.
use Rattle.std.specs.Prelude.{◌≡◌, ◌⊎◌, ◌+◌, ◌≤◌, ℤ, true, List, [], ◌∷◌, length}
use Rattle.meaning.specs.Tree.{Tree}
use Rattle.meaning.specs.Tables.{Tables}
use Rattle.meaning.specs.Outcome.{Log, Accumulators, Marks}
use Rattle.meaning.specs.Elision.{Finished, from_scratch}
use Rattle.meaning.specs.Records.{Revised, Kept, Key, IsSound, needed, executed, reused}
use Rattle.meaning.specs.Commits.{kept_after}
use Rattle.meaning.specs.Trail.{trail_at}
use Rattle.meaning.specs.SmallStep.{look_of}
use Rattle.meaning.specs.Tallies.{Opened, Tally, executions, valid_record}
use Rattle.trail_theory.specs.ElisionBeside.{before_fault}
use Rattle.trail_theory.specs.Order.{In, Every}

-- the marks of instances that a record answers, each with its name and arguments
abbrev pub reuses : Log → List Key
reuses [] = []
reuses (Marks f args true ∷ es) = (f, args) ∷ reuses es
reuses (_ ∷ es) = reuses es

-- an elision's log beside a stretch of the trail: the same instances executed and the same ones answered, in the same order
pub record SameKeys (program : Tree) (log es : Log) : Type 0 where
  pub executed_are : executed program log ≡ executions es
  pub reused_are : reused log ≡ reuses es

-- a record of a name and arguments is there
pub record HasRecord (records : List Kept) (key : Key) : Type 0 where
  pub it : Kept
  pub is_in : In it records
  pub named : it.of ≡ key.0
  pub called : it.args ≡ key.1

-- an open layer of a name and arguments is there
pub record HasOpened (layers : List Opened) (key : Key) : Type 0 where
  pub it : Opened
  pub is_in : In it layers
  pub named : it.of ≡ key.0
  pub called : it.args ≡ key.1

abbrev pub HasRecordOrLayer : List Kept → List Opened → Key → Type 0
HasRecordOrLayer made layers key = HasRecord made key ⊎ HasOpened layers key

-- a tally has counted the marks of a stretch of the trail; where it has as many new records and open layers as executions, each execution has one
pub record IsCounted (t : Tally) (es : Log) : Type 0 where
  pub executed_are : t.executed ≡ length (executions es)
  pub reused_are : t.reused ≡ length (reuses es)
  pub room : length t.made + length t.opened ≤ t.executed
  pub recorded : t.executed ≤ length t.made + length t.opened → Every (HasRecordOrLayer t.made t.opened) (executions es)

-- up to its first fault the trail marks the instances that are needed
abbrev pub MarksAreNeeded : Revised → Tables → List Kept → Accumulators → Type 0
MarksAreNeeded program tables records sight =
    SameKeys program.tree (needed program tables records)
    (before_fault (trail_at program.tree tables sight (look_of (valid_record program tables records))))

-- the tally of main's strand that is over has counted the needed instances
pub record CountsNeeded (program : Revised) (tables : Tables) (records : List Kept) (t : Tally) : Type 0 where
  pub executed_are : t.executed ≡ length (executed program.tree (needed program tables records))
  pub reused_are : t.reused ≡ length (reused (needed program tables records))

-- with the records after a run in which every executed instance was recorded, no instance is executed
pub record LeavesNothing (program : Revised) (tables : Tables) (records : List Kept) : Type 0 where
  pub sound : Every (IsSound program) (kept_after program tables records)
  pub executes_none : executed program.tree (needed program tables (kept_after program tables records)) ≡ []

-- after a finished run nothing is needed
abbrev pub NothingNeeded : Revised → Tables → List Kept → Type 0
NothingNeeded program tables records = (v : ℤ) (acc : Accumulators) → from_scratch program.tree tables ≡ Finished v acc → LeavesNothing program tables records
