-- How the code's evaluations end.
use Rattle.std.specs.Prelude.{◌≡◌, ℤ, List, [], ◌∷◌, ◌++◌, Some, Result, Ok, Err, length, slice_get, take}
use Rattle.meaning.specs.Tables.{Tables}
use Rattle.input_tables.specs.Edited.{cell_at}
use Rattle.linked_program.specs.declared.code.RowCells.{RowCells}
use Rattle.evaluation.specs.declared.note.Note.{Note}
use Rattle.evaluation.specs.declared.note.Note.TheVariants.{Cell}
use Rattle.evaluation.specs.declared.slot.Slot.{Slot}
use Rattle.evaluation.specs.Slots.{number_in}
use Rattle.evaluation.specs.declared.stop.Stop.{Stop}
use Rattle.evaluation.specs.declared.stop.Stop.TheVariants.{NoMemory, Fault}
use Rattle.evaluation.specs.Values.{NumberedOut}

-- an evaluation that found the old notes and left the new ones ends as that: its answer or its fault, and its notes behind the
-- old ones; where memory is refused the notes are the old ones
abbrev pub Ends : {A B : Type 0} → (B → A) → NumberedOut A → List Note → List Note → Result B Stop → Type 0
Ends view o old new (Ok b) = (o.answer ≡ Ok (view b)) × (new ≡ old ++ o.notes)
Ends view o old new (Err (Fault k)) = (o.answer ≡ Err k) × (new ≡ old ++ o.notes)
Ends view o old new (Err NoMemory) = new ≡ old

-- an evaluation that notes nothing ends as that: with its answer or its fault; memory may be refused
abbrev pub Answers : {A B : Type 0} → (B → A) → NumberedOut A → Result B Stop → Type 0
Answers view o (Ok b) = o.answer ≡ Ok (view b)
Answers view o (Err (Fault k)) = o.answer ≡ Err k
Answers view o (Err NoMemory) = Unit {0}

-- an evaluation ends as that, as by Ends, but where memory is refused the notes are the old ones and some more
abbrev pub Stops : {A B : Type 0} → (B → A) → NumberedOut A → List Note → List Note → Result B Stop → Type 0
Stops view o old new (Ok b) = (o.answer ≡ Ok (view b)) × (new ≡ old ++ o.notes)
Stops view o old new (Err (Fault k)) = (o.answer ≡ Err k) × (new ≡ old ++ o.notes)
Stops view o old new (Err NoMemory) = take (length old) new ≡ old

-- these are the values of the two cells, and they are noted one after the other
abbrev pub AreNoted : Tables → List Slot → RowCells → ℤ → ℤ → List Note → List Note → Type 0
AreNoted ts slots c x y old new =
    let n = number_in (slice_get slots c.slot) in
    (cell_at ts c.table n c.first ≡ Some x) × (cell_at ts c.table n c.second ≡ Some y)
    × (new ≡ old ++ Cell c.table n c.first x ∷ Cell c.table n c.second y ∷ [])
