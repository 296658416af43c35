-- Values that are found with nothing to note, and an instance's slots that are put in place.
use Rattle.std.specs.Prelude.{◌≡◌, ◌<◌, ℕ, ℤ, Bool, true, List, [], ◌∷◌, length, Ok}
use Rattle.meaning.specs.Tables.{Tables}
use Rattle.meaning.specs.declared.tree.Operator.{Operator}
use Rattle.linked_program.specs.declared.code.RowCells.{RowCells}
use Rattle.linked_program.specs.CodeView.{on_row}
use Rattle.linked_program.specs.Linked.{Linked, slot}
use Rattle.evaluation.specs.declared.slot.Slot.{Slot}
use Rattle.evaluation.specs.Values.{NumberedOut, applied, pure, value_at}
use Rattle.positions.specs.Layers.{PlainLayer, noting}

-- a layer has noted what the evaluation read, which has that answer
abbrev pub Fills : {A : Type 0} → NumberedOut A → A → PlainLayer → PlainLayer → Type 0
Fills o a old new = (o.answer ≡ Ok a) × (new ≡ noting o.notes old)

-- the evaluation has that answer, and reads nothing where readings are kept
abbrev pub Reads : {A : Type 0} → Bool → NumberedOut A → A → Type 0
Reads keeps o a = (o.answer ≡ Ok a) × (keeps ≡ true → o.notes ≡ [])

-- a row's two cells are these numbers: an operator on the cells has the value that it has on the numbers
abbrev pub AreCells : Tables → List Slot → RowCells → ℤ → ℤ → Type 0
AreCells ts slots cells x y = (op : Operator) (v : ℤ) → applied op x y ≡ pure v → (value_at ts slots (on_row op cells)).answer ≡ Ok v

-- the arguments of an iteration are the loop's variable alone, which has a slot
abbrev pub IsCounted : List Slot → ℕ → List Linked → Type 0
IsCounted slots x es = (x < length slots) × (es ≡ slot x ∷ [])
