-- What a layer notes of an evaluation, by how that ends.
use Rattle.std.specs.Prelude.{◌≡◌, ℕ, Bool, true, false, List, take, Result, Ok, Err}
use Rattle.evaluation.specs.declared.note.Note.{Note}
use Rattle.evaluation.specs.declared.stop.Stop.{Stop}
use Rattle.evaluation.specs.declared.stop.Stop.TheVariants.{NoMemory, Fault}
use Rattle.evaluation.specs.Values.{NumberedOut}
use Rattle.positions.specs.Layers.{PlainLayer, noting}

-- all readings, where they are kept, and else so many first ones
abbrev pub kept_or_first : Bool → ℕ → List Note → List Note
kept_or_first true n ns = ns
kept_or_first false n ns = take n ns

-- a layer that had so many readings before
abbrev pub without_unkept : ℕ → PlainLayer → PlainLayer
without_unkept n l = record l { notes = kept_or_first l.keeps n l.notes }

-- a layer has noted what the evaluation read, which ends as that; where memory is refused it is as it was
abbrev pub HasNoted : {A B : Type 0} → (B → A) → NumberedOut A → PlainLayer → PlainLayer → Result B Stop → Type 0
HasNoted view o old new (Ok b) = (o.answer ≡ Ok (view b)) × (new ≡ noting o.notes old)
HasNoted view o old new (Err (Fault k)) = (o.answer ≡ Err k) × (new ≡ noting o.notes old)
HasNoted view o old new (Err NoMemory) = new ≡ old
