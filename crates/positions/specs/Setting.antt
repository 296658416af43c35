-- What the steps of a strand and of a run need of the program, the tables and the records, as one record.
use Rattle.std.specs.Prelude.{◌≡◌, true, List}
use Rattle.monoid_laws.specs.declared.Kind.{Kind}
use Rattle.meaning.specs.Tables.{Tables}
use Rattle.meaning.specs.Records.{Revised, Kept}
use Rattle.meaning.specs.Schedules.{Memory, recording_from}
use Rattle.linked_program.specs.declared.code.Code.{Code}
use Rattle.linked_program.specs.TableNames.{Columned, columned_of}
use Rattle.linked_program.specs.Procedures.{procedures}
use Rattle.linked_program.specs.Linked.{kinds_of}
use Rattle.linked_program.specs.CodeView.{AreCodesOf}
use Rattle.linked_program.specs.Checked.{PlainChecked, revised_of}
use Rattle.record_theory.specs.Record.{PlainRecord}
use Rattle.record_theory.specs.Named.{AreRecords, IsInOrder}

-- the names of the tables that the program was checked against with their columns, the program, its procedures' codes, its
-- reducers' kinds, the tables, the records that may answer its memo instances, and what there is of earlier runs and for later
-- ones by name
pub record Setting : Type 0 where
  pub names : List Columned
  pub program : Revised
  pub codes : List Code
  pub kinds : List Kind
  pub tables : Tables
  pub records : List PlainRecord
  pub memory : Memory

-- a checked program on tables, with records that stand for those kept by name; a run makes new ones
abbrev pub setting_with : PlainChecked → Tables → List Kept → List PlainRecord → Setting
setting_with c tables kept records =
    record { names = c.tables; program = revised_of c; codes = c.codes; kinds = c.kinds; tables = tables; records = records; memory = recording_from kept }

-- the codes and kinds are those of the program
pub record IsLinked (setting : Setting) : Type 0 where
  pub codes : AreCodesOf setting.names setting.program.tree setting.codes (procedures setting.program.tree)
  pub kinds : setting.kinds ≡ kinds_of setting.program.tree

-- the tables have the names that the program was checked against
abbrev pub HasItsTables : Setting → Type 0
HasItsTables setting = setting.names ≡ columned_of setting.tables

-- the same program by the names that its tables have
abbrev pub by_own_names : Setting → Setting
by_own_names setting = record setting { names = columned_of setting.tables }

-- the records stand for those kept by name, new ones are made, and the revision numbers go by the procedures' numbers
pub record HasItsRecords (setting : Setting) : Type 0 where
  pub records : AreRecords setting.program.tree setting.names setting.kinds setting.memory.records setting.records
  pub recording : setting.memory.recording ≡ true
  pub in_order : IsInOrder setting.program.tree setting.program.revisions
