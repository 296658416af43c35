-- Which record answers an instance, by numbers.
use Rattle.std.specs.Prelude.{ℕ, suc, ◌+◌, nat_le, nat_eq, ℤ, Bool, false, cond, ◌&&◌, List, Option, Some, None, slice_get}
use Rattle.std.specs.List.{find}
use Rattle.std.specs.Ordering.{int_eq}
use Rattle.meaning.specs.Tree.{Name}
use Rattle.meaning.specs.Every.{every}
use Rattle.meaning.specs.Tables.{Tables}
use Rattle.meaning.specs.Elision.{depth_limit}
use Rattle.meaning.specs.Records.{same_number, same_bool}
use Rattle.input_tables.specs.Edited.{cell_at, has_at, limit_at, sum_at}
use Rattle.evaluation.specs.declared.note.Note.{Note}
use Rattle.evaluation.specs.declared.note.Note.TheVariants.{Cell, Has, Limit, Sum}
use Rattle.record_theory.specs.Record.{PlainRecord, is_of, as_made}

-- the tables hold what was read
abbrev pub note_agrees : Tables → Note → Bool
note_agrees tables (Cell t row c v) = same_number (cell_at tables t row c) v
note_agrees tables (Has t row there) = same_bool (has_at tables t row) there
note_agrees tables (Limit t v) = int_eq (limit_at tables t) v
note_agrees tables (Sum t c v) = int_eq (sum_at tables t c) v

abbrev pub is_revision : Option (Name × ℕ) → ℕ → Bool
is_revision None n = false
is_revision (Some e) n = nat_eq e.1 n

-- the procedure of a number has that revision number
abbrev pub has_revision : List (Name × ℕ) → ℕ × ℕ → Bool
has_revision revisions e = is_revision (slice_get revisions e.0) e.1

module _ (revisions : List (Name × ℕ)) (tables : Tables) where
  -- the tables hold what was read, and the procedures entered are as they were
  abbrev pub record_holds : PlainRecord → Bool
  record_holds r = every (note_agrees tables) r.reads && every (has_revision revisions) r.entered

  -- the record holds now and fits the depth
  abbrev pub record_valid : ℕ → PlainRecord → Bool
  record_valid depth r = record_holds r && nat_le (depth + r.height) (suc depth_limit)

  abbrev pub only_valid : ℕ → Option PlainRecord → Option PlainRecord
  only_valid depth None = None
  only_valid depth (Some r) = cond (record_valid depth r) (Some (as_made r)) None

  -- the record of a procedure and arguments, where it is valid at that depth; whether it is doesn't go by its number
  abbrev pub valid_at : ℕ → List PlainRecord → ℕ → List ℤ → Option PlainRecord
  valid_at depth records procedure arguments = only_valid depth (find (is_of procedure arguments) records)
