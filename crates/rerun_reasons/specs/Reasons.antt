-- Why a record doesn't answer an instance.
use Rattle.std.specs.Prelude.{ℕ, ℤ, Bool, true, false, cond, List, [], ◌∷◌, Option, Some, None}
use Rattle.std.specs.List.{find}
use Rattle.std.specs.Ordering.{int_eq}
use Rattle.meaning.specs.Tree.{Name}
use Rattle.meaning.specs.Tables.{Tables}
use Rattle.meaning.specs.Records.{same_bool}
use Rattle.input_tables.specs.Edited.{cell_at, has_at, limit_at, sum_at}
use Rattle.evaluation.specs.declared.note.Note.{Note}
use Rattle.evaluation.specs.declared.note.Note.TheVariants as note
use Rattle.record_theory.specs.Record.{PlainRecord, is_of}
use Rattle.record_theory.specs.Validity.{has_revision}
use Rattle.rerun_reasons.specs.declared.reason.Reason.{Reason}
use Rattle.rerun_reasons.specs.declared.reason.Reason.TheVariants as reason

-- the cell that was read and what is there now; where there is nothing, its row is gone
abbrev pub cell_change : ℕ → ℤ → ℕ → ℤ → Option ℤ → Option Reason
cell_change t row c v None = Some (reason.Row t row true)
cell_change t row c v (Some w) = cond (int_eq w v) None (Some (reason.Cell t row c v w))

-- how a reading is another now, if it is
abbrev pub change_of : Tables → Note → Option Reason
change_of ts (note.Cell t row c v) = cell_change t row c v (cell_at ts t row c)
change_of ts (note.Has t row there) = cond (same_bool (has_at ts t row) there) None (Some (reason.Row t row there))
change_of ts (note.Limit t v) = cond (int_eq (limit_at ts t) v) None (Some (reason.Limit t v (limit_at ts t)))
change_of ts (note.Sum t c v) = cond (int_eq (sum_at ts t c) v) None (Some (reason.Sum t c v (sum_at ts t c)))

-- the first of two reasons that there is
abbrev pub or_else : Option Reason → Option Reason → Option Reason
or_else None later = later
or_else (Some r) later = Some r

-- how the first reading that is another now is
abbrev pub first_change : Tables → List Note → Option Reason
first_change ts [] = None
first_change ts (n ∷ ns) = or_else (change_of ts n) (first_change ts ns)

-- the first procedure that is another now
abbrev pub first_defined : List (Name × ℕ) → List (ℕ × ℕ) → Option Reason
first_defined revisions [] = None
first_defined revisions (e ∷ es) = cond (has_revision revisions e) (first_defined revisions es) (Some (reason.Defined e.0))

-- a reason that there is, or else the depth
abbrev pub or_deep : Option Reason → Reason
or_deep None = reason.TooDeep
or_deep (Some r) = r

module _ (revisions : List (Name × ℕ)) (tables : Tables) where
  abbrev pub reason_by : Option PlainRecord → Reason
  reason_by None = reason.NoRecord
  reason_by (Some r) = or_deep (or_else (first_defined revisions r.entered) (first_change tables r.reads))

  -- why no record answers an instance of that procedure with these arguments, where none does
  abbrev pub reason_for : List PlainRecord → ℕ → List ℤ → Reason
  reason_for records procedure arguments = reason_by (find (is_of procedure arguments) records)
