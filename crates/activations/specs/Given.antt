-- What the calls on strands are given: a checked program, tables and records; and a loop's statement.
use Rattle.std.specs.Prelude.{List, []}
use Rattle.linked_program.specs.Checked.{PlainChecked}
use Rattle.input_tables.specs.Edited.{Edited}
use Rattle.record_theory.specs.Record.{PlainRecord}
use Rattle.positions.specs.Setting.{Setting, setting_with}
use Rattle.positions.specs.Code.{PlainLoop}
use Rattle.activations.specs.declared.setting.Setting.{Setting as Lent}
use Rattle.activations.specs.declared.code.LoopCode.{LoopCode}

abbrev pub setting_over : PlainChecked → Edited → List PlainRecord → Setting
setting_over program tables records = setting_with program tables.tables [] records

abbrev pub lent : Lent → Setting
lent setting = setting_over setting.program.now setting.tables.now setting.records.now

-- a loop's statement as a plain value
abbrev pub loop_of : LoopCode → PlainLoop
loop_of code = record { number = code.number; variable = code.variable; grain = code.grain; callee = code.callee; arguments = code.arguments.now }
