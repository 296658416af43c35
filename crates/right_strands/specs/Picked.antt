-- The run that strands are of, as it is picked.
use Rattle.std.specs.Prelude.{◌≡◌, List, [], All}
use Rattle.monoid_laws.specs.Kinds.{IsMonoid}
use Rattle.meaning.specs.Schedules.{recording_from}
use Rattle.trail_theory.specs.OpenLayers.{IsNumbered}
use Rattle.strand_theory.specs.Ready.{IsReady}
use Rattle.linked_program.specs.TableNames.{columned_of}
use Rattle.linked_program.specs.Checked.{PlainChecked, nothing}
use Rattle.input_tables.specs.Edited.{Edited}
use Rattle.record_theory.specs.Record.{PlainRecord}
use Rattle.record_theory.specs.InStep.{IsInStep}
use Rattle.record_theory.specs.Named.{HaveValues}
use Rattle.positions.specs.Setting.{Setting, setting_with}
use Rattle.right_strands.specs.Remembering.{Remembers}

-- a run that no call has picked
abbrev pub unpicked : Setting
unpicked = record { names = []; program = nothing; codes = []; kinds = []; tables = []; records = []; memory = recording_from [] }

-- the program, the tables and the records are the run's; program and tables were checked against each other, the records are in
-- step with the tables and stand for sound ones, and whichever these are, all are what the theory asks for
pub record IsSet (setting : Setting) (p : PlainChecked) (e : Edited) (r : List PlainRecord) : Type 0 where
  pub same : setting_with p e.tables [] r ≡ setting
  pub names : p.tables ≡ columned_of e.tables
  pub sound : Remembers setting
  pub values : HaveValues p.kinds r
  pub in_step : IsInStep e.tables r
  pub ready : (k : Remembers setting) → IsReady setting.program setting.tables (recording_from k.kept)
  pub numbered : IsNumbered setting.program
  pub monoids : All IsMonoid setting.kinds
