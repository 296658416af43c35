-- What was read at one time: of each cell one value.
use Rattle.std.specs.Prelude.{◌≡◌, ℕ, ℤ, true, All, List}
use Rattle.evaluation.specs.declared.note.Note.{Note}
use Rattle.evaluation.specs.declared.note.Note.TheVariants.{Cell}
use Rattle.record_theory.specs.Record.{PlainRecord}
use Rattle.record_theory.specs.Same.{is_read}

abbrev pub IsOfOneTime : List Note → Type 0
IsOfOneTime notes =
    (t : ℕ) (row : ℤ) (c : ℕ) (v w : ℤ) → is_read notes (Cell t row c v) ≡ true → is_read notes (Cell t row c w) ≡ true → v ≡ w

-- so it is of each record
abbrev pub AreOfOneTime : List PlainRecord → Type 0
AreOfOneTime records = All (λ (r : PlainRecord). IsOfOneTime r.reads) records
