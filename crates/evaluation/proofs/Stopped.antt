-- How a loop over expressions goes on and stops, where what is left of it is an evaluation with a continuation.
use Rattle.std.proofs.Common.{◌≡◌, ◌≤◌, ◌<◌, ◌+◌, ◌-◌, ◌++◌, ◌∷◌, [], ℕ, ℤ, Bool, false, cond, drop, get_or, map, List, Result, Ok, Err, is_ok, is_err, length, take, replicate, min, refl, sym, ap, ◌∙◌, arith, append_assoc, append-nil}
use Rattle.std.proofs.lemmas.List.{length-take, take-take, drop_more}
use Rattle.std.proofs.Math.Seq.{take-append_seam}
use Rattle.meaning.specs.declared.FaultKind.{FaultKind}
use Rattle.evaluation.specs.declared.note.Note.{Note}
use Rattle.evaluation.specs.declared.slot.Slot.{Slot}
use Rattle.evaluation.specs.declared.slot.Slot.TheVariants.{Has, Unset}
use Rattle.evaluation.specs.declared.stop.Stop.{Stop}
use Rattle.evaluation.specs.declared.stop.Stop.TheVariants.{NoMemory, Fault}
use Rattle.evaluation.specs.Slots.{padded}
use Rattle.evaluation.specs.Values.{NumberedOut, ◌>>=◌, onward, changed}
use Rattle.evaluation.specs.Ends.{Stops, Answers}
use Rattle.evaluation.proofs.Ending.{first_stops}

-- what is left of a list, where its next item is known
pub left_of : {X : Type 0} (xs : List X) (i : ℕ) (x : X) → i < length xs → x ≡ get_or xs i x → drop i xs ≡ x ∷ drop (i + 1) xs
left_of xs i x there is = drop_more xs i x there ∙ ap (λ y. y ∷ drop (i + 1) xs) (sym is)

-- what a call leaves that wasn't refused
pub when_done : {A B : Type 0} {X : Type 0} (r : Result A B) (b : Bool) (new x y : X) → b ≡ is_err r → b ≡ false → new ≡ cond (is_ok r) x y → new ≡ x
when_done (Ok a) b new x y is not done = done
when_done (Err e) b new x y is not done = absurd cc

-- ---- the first of what is left has an answer

pub on_answer : {A B C : Type 0} (through : Result C FaultKind → Result B FaultKind) (m : NumberedOut A) (f : A → NumberedOut C) (a : A) (whole : Result B FaultKind)
    → m.answer ≡ Ok a → whole ≡ through (m >>= f).answer → whole ≡ through (f a).answer
on_answer through m f a whole first h = h ∙ ap (λ r. through (onward m.notes r f).answer) first

pub on_notes : {A C : Type 0} (notes new all : List Note) (m : NumberedOut A) (f : A → NumberedOut C) (a : A)
    → m.answer ≡ Ok a → new ≡ notes ++ m.notes → all ≡ notes ++ (m >>= f).notes → all ≡ new ++ (f a).notes
on_notes notes new all m f a first noted h =
    h ∙ ap (λ r. notes ++ (onward m.notes r f).notes) first ∙ sym (append_assoc notes m.notes (f a).notes) ∙ ap (λ l. l ++ (f a).notes) (sym noted)

pub slots_more : (size : ℕ) (made more : List Slot) (v : ℤ) (r : Result (List ℤ) FaultKind) → more ≡ made ++ Has v ∷ []
    → changed (λ vs. padded size (made ++ map Has vs)) (changed (λ vs. v ∷ vs) r) ≡ changed (λ vs. padded size (more ++ map Has vs)) r
slots_more size made more v (Ok vs) is = ap (λ l. Ok (padded size l)) (sym (append_assoc made (Has v ∷ []) (map Has vs)) ∙ ap (λ l. l ++ map Has vs) (sym is))
slots_more size made more v (Err k) is = refl

pub slots_filled : (size count : ℕ) (made new : List Slot) → count ≡ length made → new ≡ take size made ++ replicate (size - count) Unset
    → padded size (made ++ map Has []) ≡ new
slots_filled size count made new long is = ap (padded size) (append-nil made) ∙ ap (λ n. take size made ++ replicate (size - n) Unset) (sym long) ∙ sym is

-- ---- it stops

pub first_answers : {A B C D : Type 0} (view : D → B) (through : Result C FaultKind → Result B FaultKind) (whole : NumberedOut B) (m : NumberedOut A) (f : A → NumberedOut C)
    (s : Stop) → ((k : FaultKind) → through (Err k) ≡ Err k) → whole.answer ≡ through (m >>= f).answer
    → Answers {A = A} {B = A} (λ v. v) m (Err s) → Answers view whole (Err s)
first_answers view through whole m f (Fault k) errs answer h = answer ∙ ap (λ r. through (onward m.notes r f).answer) h ∙ errs k
first_answers view through whole m f NoMemory errs answer h = tt

module _ (old notes : List Note) (front : take (length old) notes ≡ old) where
  not_more : length old ≤ length notes
  not_more =
      let is : min (length old) (length notes) ≡ length old = sym (length-take (length old) notes) ∙ ap length front in
      omega (arith, is)

  front_kept : (new : List Note) → take (length notes) new ≡ notes → take (length old) new ≡ old
  front_kept new kept = sym (take-take (length old) (length notes) new not_more) ∙ ap (take (length old)) kept ∙ front

  -- the old notes are in front of those so far and some more
  pub front_more : (more new : List Note) → new ≡ notes ++ more → take (length old) new ≡ old
  front_more more new is = front_kept new (ap (take (length notes)) is ∙ take-append_seam notes more)

  -- the whole stops as its rest does, where it is made of that and faults go through
  pub rest_stops : {A B C D : Type 0} (view : D → B) (whole : NumberedOut B) (through : Result C FaultKind → Result B FaultKind) (m : NumberedOut A) (f : A → NumberedOut C)
      (new : List Note) (s : Stop) → ((k : FaultKind) → through (Err k) ≡ Err k)
      → whole.answer ≡ through (m >>= f).answer → old ++ whole.notes ≡ notes ++ (m >>= f).notes
      → Stops {A = A} {B = A} (λ v. v) m notes new (Err s) → Stops view whole old new (Err s)
  rest_stops view whole through m f new (Fault k) errs answer noted h =
      let r = first_stops (λ v. v) (λ c. c) m f notes new (Fault k) h in
      (answer ∙ ap through r.0 ∙ errs k, r.1 ∙ sym noted)
  rest_stops view whole through m f new NoMemory errs answer noted h = front_kept new h
