-- Records that are in step with the tables: the number of each is right.
use Rattle.std.specs.Prelude.{◌≡◌, ℕ, nat_eq, ℤ, Bool, true, false, ◌&&◌, List, not}
use Rattle.std.specs.List.{list_any}
use Rattle.std.specs.Ordering.{int_eq}
use Rattle.meaning.specs.Every.{every}
use Rattle.meaning.specs.Tables.{Tables}
use Rattle.input_tables.specs.Edited.{cell_at, has_at, limit_at, sum_at}
use Rattle.evaluation.specs.declared.note.Note.{Note}
use Rattle.evaluation.specs.declared.note.Note.TheVariants.{Cell, Has, Limit, Sum}
use Rattle.record_theory.specs.Record.{PlainRecord}
use Rattle.record_theory.specs.Validity.{note_agrees}
use Rattle.record_theory.specs.Numbers.{is_counted}

-- the change of a row, given by its table's number and its own, may change what is read so
abbrev pub rests_on : Note → ℕ × ℤ → Bool
rests_on (Cell t row c v) change = nat_eq t change.0 && int_eq row change.1
rests_on (Has t row there) change = nat_eq t change.0 && int_eq row change.1
rests_on (Limit t v) change = nat_eq t change.0
rests_on (Sum t c v) change = nat_eq t change.0

-- none of the changes may have changed what is read so
abbrev pub is_apart : List (ℕ × ℤ) → Note → Bool
is_apart changes note = not (list_any (rests_on note) changes)

-- how many of each record's different readings the tables don't hold is as it was counted
abbrev pub IsInStep : Tables → List PlainRecord → Type 0
IsInStep tables records = every (is_counted tables) records ≡ true

-- the tables hold all that was read
abbrev pub reads_agree : Tables → PlainRecord → Bool
reads_agree tables r = every (note_agrees tables) r.reads

abbrev pub ReadNow : Tables → List PlainRecord → Type 0
ReadNow tables records = every (reads_agree tables) records ≡ true

-- what is read of the tables is the same but for one row, given by its table's number and its own
pub record IsSameBut (table : ℕ) (row : ℤ) (before after : Tables) : Type 0 where
  pub cells : (t : ℕ) (r : ℤ) (c : ℕ) → nat_eq t table && int_eq r row ≡ false → cell_at after t r c ≡ cell_at before t r c
  pub there : (t : ℕ) (r : ℤ) → nat_eq t table && int_eq r row ≡ false → has_at after t r ≡ has_at before t r
  pub limits : (t : ℕ) → nat_eq t table ≡ false → limit_at after t ≡ limit_at before t
  pub sums : (t c : ℕ) → nat_eq t table ≡ false → sum_at after t c ≡ sum_at before t c
