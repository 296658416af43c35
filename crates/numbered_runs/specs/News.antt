-- What a run that has come to its end has counted and recorded, and the run after it.
use Rattle.std.specs.Prelude.{◌≡◌, List, [], length}
use Rattle.monoid_laws.specs.declared.Kind.{Kind}
use Rattle.meaning.specs.Tables.{Tables}
use Rattle.meaning.specs.Outcome.{Log}
use Rattle.meaning.specs.Records.{Revised, Kept, Key, IsSound, needed, executed, reused}
use Rattle.meaning.specs.Commits.{committed}
use Rattle.meaning.specs.Schedules.{recording_from}
use Rattle.trail_theory.specs.Order.{Every}
use Rattle.trail_theory.specs.OpenLayers.{IsNewRecord}
use Rattle.strand_theory.specs.Recorded.{AllRecordedBut}
use Rattle.linked_program.specs.TableNames.{Columned}
use Rattle.record_theory.specs.Record.{PlainRecord}
use Rattle.record_theory.specs.Commits.{put_records}
use Rattle.record_theory.specs.Named.{AreRecords}
use Rattle.positions.specs.Setting.{Setting}
use Rattle.positions.specs.Tallies.{PlainTally}

module _ (setting : Setting) where
  -- what is needed where those records answer
  abbrev pub needed_with : List Kept → Log
  needed_with records = needed setting.program setting.tables records

  -- the instances that are executed, and those that a record answers
  abbrev pub executed_with : List Kept → List Key
  executed_with records = executed setting.program.tree (needed_with records)

  abbrev pub reused_with : List Kept → List Key
  reused_with records = reused (needed_with records)

  -- with those new records put in no instance is executed
  abbrev pub LeaveNothing : List Kept → Type 0
  LeaveNothing kept = executed_with (committed setting.memory.records kept) ≡ []

  -- by name they are those records
  abbrev pub StandForKept : List PlainRecord → List Kept → Type 0
  StandForKept records kept =
      AreRecords setting.program.tree setting.names setting.kinds kept records

  -- the needed instances: as executed those that no valid record answers, as reused the others
  pub record HasCounted (t : PlainTally) : Type 0 where
    pub executed_are : t.executed ≡ length (executed_with setting.memory.records)
    pub reused_are : t.reused ≡ length (reused_with setting.memory.records)

  -- the records that were made are sound and hold now; they are of the executed instances, each as often, but for as many as
  -- were left unrecorded; and with them put in nothing is executed, unless one was
  pub record HaveNews (t : PlainTally) : Type 0 where
    pub kept : List Kept
    pub stand : StandForKept t.made kept
    pub news : Every (IsNewRecord setting.program setting.tables) kept
    pub each : AllRecordedBut t.unrecorded kept (executed_with setting.memory.records)
    pub complete : t.unrecorded ≡ 0 → LeaveNothing kept

-- what a session keeps between runs: records that stand for sound ones
pub record AreSound (program : Revised) (names : List Columned) (kinds : List Kind)
    (records : List PlainRecord) : Type 0 where
  pub kept : List Kept
  pub stand : AreRecords program.tree names kinds kept records
  pub sound : Every (IsSound program) kept

-- records that stand for sound ones of a setting's program
abbrev pub AreSoundIn : Setting → List PlainRecord → Type 0
AreSoundIn setting records = AreSound setting.program setting.names setting.kinds records

-- the next run of the program: on those tables, with new records put in
abbrev pub next_setting : Setting → Tables → List Kept → List PlainRecord → Setting
next_setting setting tables kept made =
    record setting {
      tables = tables;
      records = put_records setting.records made;
      memory = recording_from (committed setting.memory.records kept);
    }
