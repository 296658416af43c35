-- Rows that aren't there, and slots that are given a value.
use Rattle.std.specs.Prelude.{◌≡◌, ℕ, ℤ, List, false, Option, Some, None, Result, Err, slice_set}
use Rattle.meaning.specs.declared.tree.Operator.{Operator}
use Rattle.meaning.specs.declared.FaultKind.{FaultKind}
use Rattle.meaning.specs.declared.FaultKind.TheVariants.{MissingRow}
use Rattle.meaning.specs.Tables.{Tables}
use Rattle.evaluation.specs.Values.{NumberedOut, applied, ◌>>=◌}
use Rattle.evaluation.specs.declared.slot.Slot.{Slot}
use Rattle.evaluation.specs.declared.slot.Slot.TheVariants.{Has}
use Rattle.input_tables.specs.Edited.{has_at}
use Rattle.program_reasons.specs.declared.missing_cells.Halt.{Halt}
use Rattle.program_reasons.specs.declared.missing_cells.Halt.TheVariants as halt
use Rattle.program_reasons.specs.declared.missing_cells.Missed.{Missed}

-- the tables hold no such row
abbrev pub IsAbsent : Tables → Missed → Type 0
IsAbsent ts missed = has_at ts missed.table missed.row ≡ false

-- a walk that ends at a row ends at one that isn't there
abbrev pub EndsAbsent : Tables → Halt → Type 0
EndsAbsent ts (halt.Missed missed) = IsAbsent ts missed
EndsAbsent ts halt.Unknown = Unit {0}

-- a walk that ends at a row ends at what has the fault that a row isn't there
abbrev pub EndsMissing : {A : Type 0} → Result A FaultKind → Halt → Type 0
EndsMissing answer (halt.Missed missed) = answer ≡ Err MissingRow
EndsMissing answer halt.Unknown = Unit {0}

-- the slots with a value in one of them, if there is one that takes it
abbrev pub put_at : Option ℕ → ℤ → List Slot → List Slot
put_at None v slots = slots
put_at (Some x) v slots = slice_set slots x (Has v)

-- an operator on a number and the value of an expression
abbrev pub with_right : Operator → ℤ → NumberedOut ℤ → NumberedOut ℤ
with_right op x right = right >>= applied op x
