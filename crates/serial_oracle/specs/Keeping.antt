-- The code's records, revision numbers and keys as the definitions'.
use Rattle.std.specs.Prelude.{ℕ, List, map, string_bytes}
use Rattle.monoid_laws.specs.Kinds.{meaning}
use Rattle.meaning.specs.Tree.{Name, Tree}
use Rattle.meaning.specs.TreeView.{tree}
use Rattle.meaning.specs.Tables.{Tables}
use Rattle.meaning.specs.Outcome as outcome
use Rattle.meaning.specs.Elision.{Enter}
use Rattle.meaning.specs.Records.{Key, Kept, Revised, needing}
use Rattle.serial_oracle.specs.declared.journal.Key as code
use Rattle.serial_oracle.specs.declared.records.Reading.{Reading}
use Rattle.serial_oracle.specs.declared.records.Reading.TheVariants as r
use Rattle.serial_oracle.specs.declared.records.Revision.{Revision}
use Rattle.serial_oracle.specs.declared.records.Revisions.{Revisions}
use Rattle.serial_oracle.specs.declared.records.Record as records
use Rattle.serial_oracle.specs.declared.scope.Scope.{Scope}
use Rattle.serial_oracle.specs.Listing.{tables_plain}

abbrev pub reading_plain : Reading → outcome.Reading
reading_plain (r.Cell t row c v) = outcome.CellHeld (string_bytes t) row (string_bytes c) v
reading_plain (r.Has t row b) = outcome.HasHeld (string_bytes t) row b
reading_plain (r.Limit t v) = outcome.LimitHeld (string_bytes t) v
reading_plain (r.Sum t c v) = outcome.SumHeld (string_bytes t) (string_bytes c) v

abbrev pub revision : Revision → Name × ℕ
revision r = (string_bytes r.procedure, r.number)

abbrev pub revised : Tree → Revisions → Revised
revised program r = record { tree = program; revisions = map revision r.numbers.items; counter = r.counter }

abbrev pub kept : records.Record → Kept
kept k = record {
  of = string_bytes k.of;
  args = k.args.items;
  value = k.value;
  contribution = map meaning k.contribution.items;
  read = map reading_plain k.read.items;
  revisions = map revision k.revisions.items;
  height = k.height;
}

abbrev pub key_plain : code.Key → Key
key_plain k = (k.name.now, k.args.items)

-- what a scope stands for
abbrev pub tree_in : Scope → Tree
tree_in s = tree s.program.now

abbrev pub revised_in : Scope → Revised
revised_in s = revised (tree_in s) s.revisions.now

abbrev pub tables_in : Scope → Tables
tables_in s = tables_plain s.tables.now

abbrev pub records_in : Scope → List Kept
records_in s = map kept s.records.now

-- how an instance is entered, where so many levels are left
abbrev pub enters_in : Scope → ℕ → Enter
enters_in s left = needing (revised_in s) (tables_in s) (records_in s) left
