-- Iterations whose only argument is their number.
use Rattle.std.proofs.Common.{◌≡◌, ℕ, zero, suc, ◌<◌, Bool, true, false, ℤ, List, [], ◌∷◌, length, Some, Ok, slice_get, slice_set, refl, sym, ap, ◌∙◌, subst, arith}
use Rattle.std.proofs.lemmas.List.{append-nil}
use Rattle.meaning.specs.Tables.{Tables}
use Rattle.linked_program.specs.Linked.{Linked, slot}
use Rattle.evaluation.specs.declared.note.Note.{Note}
use Rattle.evaluation.specs.declared.slot.Slot.{Slot}
use Rattle.evaluation.specs.declared.slot.Slot.TheVariants.{Has}
use Rattle.evaluation.specs.Slots.{number_in}
use Rattle.evaluation.specs.Values.{NumberedOut, pure, values_at}
use Rattle.positions.specs.Layers.{kept_behind}
use Rattle.positions.specs.Strands.{PlainStrand}
use Rattle.positions.specs.Advance.{noted}
use Rattle.small_steps.specs.Ends.{TakesNumber}

set_there : (xs : List Slot) (i : ℕ) (x : Slot) → i < length xs → slice_get (slice_set xs i x) i ≡ Some x
set_there [] i x l = absurd (omega arith)
set_there (y ∷ xs) zero x l = refl
set_there (y ∷ xs) (suc i) x l = set_there xs i x (omega arith)

one_slot : (ts : Tables) (slots : List Slot) (x : ℕ) → values_at ts slots (slot x ∷ []) ≡ pure (number_in (slice_get slots x) ∷ [])
one_slot ts slots x = refl

taken : (ts : Tables) (arguments : List Linked) (x : ℕ) (slots : List Slot) (n : ℤ) → TakesNumber arguments x slots
    → values_at ts (slice_set slots x (Has n)) arguments ≡ pure (n ∷ [])
taken ts arguments x slots n h =
    ap (λ es. values_at ts (slice_set slots x (Has n)) es) h.0 ∙ one_slot ts (slice_set slots x (Has n)) x
    ∙ ap (λ o. pure (number_in o ∷ [])) (set_there slots x (Has n) h.1)

none_noted : (b : Bool) (ns : List Note) → kept_behind b ns [] ≡ ns
none_noted true ns = append-nil ns
none_noted false ns = refl

nothing_noted : (s : PlainStrand) → s ≡ noted [] s
nothing_noted s = ap (λ ns. record s { layer = record s.layer { notes = ns } }) (sym (none_noted s.layer.keeps s.layer.notes))

pure_noted : (o : NumberedOut (List ℤ)) (xs ys : List ℤ) (s : PlainStrand) → o ≡ pure xs → xs ≡ ys → (o.answer ≡ Ok ys) × (s ≡ noted o.notes s)
pure_noted o xs ys s e f = subst (λ p. (p.answer ≡ Ok ys) × (s ≡ noted p.notes s)) (sym e) (ap Ok f, nothing_noted s)

-- an iteration's number as its arguments' values
pub number_taken : (ts : Tables) (arguments : List Linked) (x : ℕ) (slots : List Slot) (n : ℤ) (ys : List ℤ) (s : PlainStrand) → TakesNumber arguments x slots → n ∷ [] ≡ ys
    → ((values_at ts (slice_set slots x (Has n)) arguments).answer ≡ Ok ys) × (s ≡ noted (values_at ts (slice_set slots x (Has n)) arguments).notes s)
number_taken ts arguments x slots n ys s h e = pure_noted _ (n ∷ []) ys s (taken ts arguments x slots n h) e
