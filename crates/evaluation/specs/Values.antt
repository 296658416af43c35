-- The values of expressions whose names are numbers, with what was read on the way.
use Rattle.std.specs.Prelude.{ℕ, nat_le, ℤ, cond, List, [], ◌∷◌, ◌++◌, Option, Some, None, Result, Ok, Err, slice_get}
use Rattle.std.specs.Int.{w64, int_wrapping_neg}
use Rattle.meaning.specs.declared.tree.Operator.{Operator}
use Rattle.meaning.specs.declared.FaultKind.{FaultKind}
use Rattle.meaning.specs.declared.FaultKind.TheVariants.{MissingRow, RangeTooLong}
use Rattle.meaning.specs.Tables.{Tables}
use Rattle.meaning.specs.Values.{apply, one_if}
use Rattle.meaning.specs.Statements.{most_iterations, span}
use Rattle.input_tables.specs.Edited as tables
use Rattle.linked_program.specs.Linked.{Linked, constant, slot, cell_at, has_at, limit_at, sum_at, minus, joined}
use Rattle.evaluation.specs.declared.note.Note.{Note}
use Rattle.evaluation.specs.declared.note.Note.TheVariants.{Cell, Has, Limit, Sum}
use Rattle.evaluation.specs.declared.slot.Slot.{Slot}
use Rattle.evaluation.specs.declared.slot.Slot.TheVariants as forms
use Rattle.evaluation.specs.Slots.{number_in, slots_for}

infixl 20 ◌>>=◌
-- what was read, in order, and an answer or a fault
pub record NumberedOut (A : Type 0) : Type 0 where
  pub notes : List Note
  pub answer : Result A FaultKind

-- an outcome in front of which these notes were read
abbrev pub behind : {A : Type 0} → List Note → NumberedOut A → NumberedOut A
behind ns o = record { notes = ns ++ o.notes; answer = o.answer }

abbrev pub onward : {A B : Type 0} → List Note → Result A FaultKind → (A → NumberedOut B) → NumberedOut B
onward ns (Err k) f = record { notes = ns; answer = Err k }
onward ns (Ok a) f = behind ns (f a)

abbrev pub ◌>>=◌ : {A B : Type 0} → NumberedOut A → (A → NumberedOut B) → NumberedOut B
m >>= f = onward m.notes m.answer f

abbrev pub changed : {A B : Type 0} → (A → B) → Result A FaultKind → Result B FaultKind
changed f (Ok a) = Ok (f a)
changed f (Err k) = Err k

-- an outcome with its notes, and what a function makes of its answer
abbrev pub mapped : {A B : Type 0} → (A → B) → NumberedOut A → NumberedOut B
mapped f o = record { notes = o.notes; answer = changed f o.answer }

abbrev pub pure : {A : Type 0} → A → NumberedOut A
pure a = record { notes = []; answer = Ok a }

abbrev pub fail : {A : Type 0} → FaultKind → NumberedOut A
fail k = record { notes = []; answer = Err k }

abbrev pub reading : {A : Type 0} → Note → A → NumberedOut A
reading n a = record { notes = n ∷ []; answer = Ok a }

-- what an operator comes to, which reads nothing
abbrev pub applied : Operator → ℤ → ℤ → NumberedOut ℤ
applied op x y = record { notes = []; answer = (apply op x y).answer }

abbrev pub looked : ℕ → ℤ → ℕ → Option ℤ → NumberedOut ℤ
looked t row c None = fail MissingRow
looked t row c (Some v) = reading (Cell t row c v) v

-- how many iterations a loop has, where they are not too many
abbrev pub ranged : ℕ → NumberedOut ℕ
ranged n = cond (nat_le n most_iterations) (pure n) (fail RangeTooLong)

module _ (ts : Tables) (slots : List Slot) where
  abbrev pub value_at : Linked → NumberedOut ℤ
  value_at (constant n) = pure n
  value_at (slot x) = pure (number_in (slice_get slots x))
  value_at (cell_at t e c) = do
    row ← value_at e
    looked t row c (tables.cell_at ts t row c)
  value_at (has_at t e) = do
    row ← value_at e
    reading (Has t row (tables.has_at ts t row)) (one_if (tables.has_at ts t row))
  value_at (limit_at t) = reading (Limit t (tables.limit_at ts t)) (tables.limit_at ts t)
  value_at (sum_at t c) = reading (Sum t c (tables.sum_at ts t c)) (tables.sum_at ts t c)
  value_at (minus e) = mapped (int_wrapping_neg w64) (value_at e)
  value_at (joined op e f) = do
    x ← value_at e
    y ← value_at f
    applied op x y

  -- from left to right
  abbrev pub values_at : List Linked → NumberedOut (List ℤ)
  values_at [] = pure []
  values_at (e ∷ es) = do
    v ← value_at e
    mapped (λ vs. v ∷ vs) (values_at es)

  -- the slots of an instance of so many names that is entered with these arguments
  abbrev pub entry_at : ℕ → List Linked → NumberedOut (List Slot)
  entry_at size es = mapped (slots_for size) (values_at es)

  -- the slot of such an instance at a place, by the argument that stands there
  abbrev pub slot_by : Option Linked → NumberedOut Slot
  slot_by None = pure forms.Unset
  slot_by (Some e) = mapped forms.Has (value_at e)

  -- a loop's first number, and how many iterations it has
  abbrev pub bounds_at : Linked → Linked → NumberedOut (ℤ × ℕ)
  bounds_at e f = do
    low ← value_at e
    high ← value_at f
    mapped (λ n. (low, n)) (ranged (span low high))
