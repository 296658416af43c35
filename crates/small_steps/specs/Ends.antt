-- How the evaluations of a strand end.
use Rattle.std.specs.Prelude.{◌≡◌, ◌<◌, ℕ, List, [], ◌∷◌, length, Option, Some, None, Ok}
use Rattle.linked_program.specs.Linked.{Linked, slot}
use Rattle.evaluation.specs.declared.slot.Slot.{Slot}
use Rattle.evaluation.specs.Values.{NumberedOut}
use Rattle.positions.specs.Strands.{PlainStrand}
use Rattle.positions.specs.Advance.{noted, evaluated}

-- a strand has evaluated at that statement: it goes on with a value, or it is faulted
abbrev pub Evaluates : {A B : Type 0} → (B → A) → ℕ → NumberedOut A → PlainStrand → PlainStrand → Option B → Type 0
Evaluates {A} view n o old new (Some b) = (o.answer ≡ Ok (view b)) × (new ≡ noted o.notes old)
Evaluates {A} view n o old new None = (next : A → PlainStrand → PlainStrand) → new ≡ evaluated n o next old

-- the arguments are a loop's number alone, which has that slot
abbrev pub TakesNumber : List Linked → ℕ → List Slot → Type 0
TakesNumber arguments variable slots = (arguments ≡ slot variable ∷ []) × (variable < length slots)
