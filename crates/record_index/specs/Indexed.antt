-- Records with what was told of the procedures, and what they are in step with.
use Rattle.std.specs.Prelude.{◌≡◌, ◌⊎◌, ◌<◌, ℕ, ℤ, nat_lt, Bool, true, ◌&&◌, List, [], Option, Some, None, map, length, take, is_some}
use Rattle.std.specs.List.{find}
use Rattle.meaning.specs.Tree.{Name}
use Rattle.meaning.specs.TreeView.{tree}
use Rattle.meaning.specs.Every.{every}
use Rattle.meaning.specs.Tables.{Tables}
use Rattle.meaning.specs.Records.{Key}
use Rattle.linked_program.specs.Checked.{PlainChecked, names_in}
use Rattle.input_tables.specs.Befores.{PlainBefore}
use Rattle.input_tables.specs.Edited.{columns_at}
use Rattle.record_theory.specs.Record.{PlainRecord, is_of, as_made}
use Rattle.record_theory.specs.InStep.{IsInStep}
use Rattle.record_numbers.specs.Stale.{most_number}
use Rattle.record_theory.specs.Named.{number_of}
use Rattle.record_theory.specs.Validity.{has_revision}
use Rattle.record_index.specs.Counts.{stale_count}
use Rattle.record_index.specs.Befores.{HasRoomFor}

-- records, the procedures' names with their revision numbers as they were told last, and room for what is told of an edit of a row of
-- fewer columns than that
pub record PlainIndexed : Type 0 where
  pub records : List PlainRecord
  pub told : List (Name × ℕ)
  pub room : ℕ

-- no records
abbrev pub nothing_indexed : PlainIndexed
nothing_indexed = record { records = []; told = []; room = 0 }

-- the record's procedure and those that it entered are among so many
abbrev pub is_within : ℕ → PlainRecord → Bool
is_within k r = nat_lt r.procedure k && every (λ e. nat_lt e.0 k) r.entered

-- what was told are the first of the revisions, and no record names a later procedure
pub record AreTold (revisions : List (Name × ℕ)) (told : List (Name × ℕ)) (records : List PlainRecord) : Type 0 where
  pub first : told ≡ take (length told) revisions
  pub within : every (is_within (length told)) records ≡ true

-- what was counted and told is right for the program and the tables
pub record IsIndexed (revisions : List (Name × ℕ)) (tables : Tables) (x : PlainIndexed) : Type 0 where
  pub in_step : IsInStep tables x.records
  pub told : AreTold revisions x.told (map as_made x.records)
  pub room : (x.records ≡ []) ⊎ HasRoomFor tables x.room

-- what was noted is of that row, of a table with as many columns
pub record IsBeside (tables : Tables) (table : ℕ) (row : ℤ) (was : PlainBefore) : Type 0 where
  pub table_is : was.table ≡ table
  pub row_is : was.row ≡ row
  pub wide : length was.sums ≡ length (columns_at tables table)

-- two tables have the same columns
abbrev pub HaveSameColumns : Tables → Tables → Type 0
HaveSameColumns before after = (t : ℕ) → length (columns_at after t) ≡ length (columns_at before t)

-- the names of the first are the first of the others
abbrev pub IsLonger : List (Name × ℕ) → List (Name × ℕ) → Type 0
IsLonger old new = names_in old ≡ take (length old) (names_in new)

-- its procedure is one of the program, and those entered are as they were
abbrev pub are_current : List (Name × ℕ) → PlainRecord → Bool
are_current revisions r = nat_lt r.procedure (length revisions) && every (has_revision revisions) r.entered

abbrev pub EnteredNow : List (Name × ℕ) → List PlainRecord → Type 0
EnteredNow revisions records = every (are_current revisions) records ≡ true

-- what is told of a key's record: how many of its readings and revisions don't hold, unless it has more than can be counted; nothing of no record
abbrev pub IsStale : List (Name × ℕ) → Tables → Option PlainRecord → Option ℕ → Type 0
IsStale revisions tables None answer = answer ≡ None
IsStale revisions tables (Some r) answer = (is_some answer ≡ true) × (length r.reads < most_number → answer ≡ Some (stale_count revisions tables r))

-- the record of a key
abbrev pub record_for : PlainChecked → List PlainRecord → Key → Option PlainRecord
record_for program records key = find (is_of (number_of (tree program.program) key.0) key.1) records
