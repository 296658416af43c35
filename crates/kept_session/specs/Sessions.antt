-- A session as a plain value, and what it keeps.
use Rattle.std.specs.Prelude.{◌≡◌, ℕ, true, List, [], length, All}
use Rattle.monoid_laws.specs.declared.Kind.{Kind}
use Rattle.view_pool.specs.Stock.{Stock}
use Rattle.meaning.specs.Tree.{Tree}
use Rattle.meaning.specs.TreeView.{tree}
use Rattle.meaning.specs.Tables.{Tables, is_there}
use Rattle.meaning.specs.Statements.{procedure_of}
use Rattle.meaning.specs.Records.{Revised, Kept, IsSound, holds_now}
use Rattle.meaning.specs.Edits.{Standing}
use Rattle.trail_theory.specs.Order.{Every}
use Rattle.linked_program.specs.TableNames.{columned_of}
use Rattle.linked_program.specs.Checked.{PlainChecked, revised_of}
use Rattle.input_tables.specs.Edited.{Edited}
use Rattle.record_theory.specs.Record.{PlainRecord}
use Rattle.record_theory.specs.InStep.{IsInStep}
use Rattle.record_theory.specs.Named.{AreKept, HaveValues}
use Rattle.checked_defines.specs.Standings.{standing}
use Rattle.numbered_runs.specs.Sound.{AreSoundFor}

-- the program, its tables, the kits by their kinds, the records that runs have left, and how many pushes of the last run were done as inlines
pub record PlainSession : Type 0 where
  pub checked : PlainChecked
  pub tables : Edited
  pub kits : Stock (List Kind)
  pub records : List PlainRecord
  pub inlined : ℕ

-- what the definitions know of it: the program with its revision numbers and lines, beside its tables
abbrev pub standing_of : PlainSession → Standing
standing_of s = standing s.checked s.tables

-- a pool of these kits, all free
abbrev pub stock_of : List (List Kind) → Stock (List Kind)
stock_of kits = record { kits = kits; total = length kits }

-- a session that has run nothing
abbrev pub begun : PlainChecked → Edited → List (List Kind) → PlainSession
begun checked tables kits = record { checked = checked; tables = tables; kits = stock_of kits; records = []; inlined = 0 }

-- each procedure that a record names is one of the program
abbrev pub NamesThere : Tree → Kept → Type 0
NamesThere t k = All (λ e. is_there (procedure_of t e.0) ≡ true) k.revisions

-- the records are sound for the program, and name procedures of it alone: these keep their numbers whatever is defined
pub record AreKeptFor (program : PlainChecked) (records : List PlainRecord) : Type 0 where
  pub sound : AreSoundFor program records
  pub there : Every (NamesThere (tree program.program)) sound.kept

-- the record is sound, and what it has noted holds now
pub record IsRightNow (program : Revised) (tables : Tables) (k : Kept) : Type 0 where
  pub sound : IsSound program k
  pub now : holds_now program tables k ≡ true

-- they stand for records that are sound and hold now
pub record AreNewFor (program : PlainChecked) (tables : Edited) (made : List PlainRecord) : Type 0 where
  pub kept : List Kept
  pub stand : AreKept program kept made
  pub right : Every (IsRightNow (revised_of program) tables.tables) kept

-- what a session keeps in its type: its records are in step with its tables, whatever rows were changed since they were made
pub record KeepsSession (s : PlainSession) : Type 0 where
  pub kept : AreKeptFor s.checked s.records
  pub values : HaveValues s.checked.kinds s.records
  pub columns : s.checked.tables ≡ columned_of s.tables.tables
  pub kinds : All (λ k. k ≡ s.checked.kinds) s.kits.kits
  pub in_step : IsInStep s.tables.tables s.records
