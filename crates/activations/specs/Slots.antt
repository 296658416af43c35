-- Slots that are put back, and slots of which one holds something else meanwhile; the slot for a value, if there is one.
use Rattle.std.specs.Prelude.{ℕ, Bool, true, false, List, Option, Some, None, slice_set}
use Rattle.evaluation.specs.declared.slot.Slot.{Slot}
use Rattle.evaluation.specs.declared.slot.Slot.TheVariants.{Unset}

-- what a slot held is put back
abbrev pub restored_slots : ℕ → Option Slot → List Slot → List Slot
restored_slots x None slots = slots
restored_slots x (Some s) slots = slice_set slots x s

-- slots of which one holds something else meanwhile
abbrev pub laid_over : Option (ℕ × Slot) → List Slot → List Slot
laid_over None slots = slots
laid_over (Some p) slots = slice_set slots p.0 p.1

-- that slot, where there is one
abbrev pub slot_in : Bool → ℕ → Option ℕ
slot_in true x = Some x
slot_in false x = None

-- a slot into which nothing was put
abbrev pub emptied : Slot → Slot
emptied s = Unset
