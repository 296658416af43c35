-- The records that a run is lent.
use Rattle.std.specs.Prelude.{List}
use Rattle.linked_program.specs.Checked.{PlainChecked, revised_of}
use Rattle.input_tables.specs.Edited.{Edited}
use Rattle.record_theory.specs.Record.{PlainRecord}
use Rattle.positions.specs.Setting.{Setting, setting_with}
use Rattle.numbered_runs.specs.News.{AreSound}

-- records of a program that stand for sound ones
abbrev pub AreSoundFor : PlainChecked → List PlainRecord → Type 0
AreSoundFor program records = AreSound (revised_of program) program.tables program.kinds records

-- a program on tables, with those sound records by name
abbrev pub setting_by : (program : PlainChecked) → Edited → (records : List PlainRecord) → AreSoundFor program records → Setting
setting_by program tables records sound = setting_with program tables.tables sound.kept records
