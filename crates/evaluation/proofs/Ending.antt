-- How evaluations one behind the other end.
use Rattle.std.proofs.Common.{◌≡◌, ◌≤◌, List, ◌++◌, Result, Ok, Err, length, take, refl, sym, ◌∙◌, ap, subst, append_assoc, arith, length-append}
use Rattle.std.proofs.lemmas.List.{take-take}
use Rattle.std.proofs.Math.Seq.{take-append_seam}
use Rattle.evaluation.specs.declared.note.Note.{Note}
use Rattle.evaluation.specs.declared.stop.Stop.{Stop}
use Rattle.evaluation.specs.declared.stop.Stop.TheVariants.{NoMemory, Fault}
use Rattle.evaluation.specs.Values.{NumberedOut, ◌>>=◌, onward, changed, mapped}
use Rattle.evaluation.specs.Ends.{Stops}

-- what begins with more begins with less
begins_so : (old ns new : List Note) → take (length (old ++ ns)) new ≡ old ++ ns → take (length old) new ≡ old
begins_so old ns new e =
    let le : length old ≤ length (old ++ ns) = omega (arith, length-append old ns) in
    sym (take-take (length old) (length (old ++ ns)) new le) ∙ ap (take (length old)) e ∙ take-append_seam old ns

-- where the first ends with an answer, the whole ends as the second does
module _ {A B C : Type 0} (view : C → B) (m : NumberedOut A) (f : A → NumberedOut B) (old mid new : List Note) (a : A) where
  joined_notes : mid ≡ old ++ m.notes → new ≡ mid ++ (f a).notes → new ≡ old ++ (m.notes ++ (f a).notes)
  joined_notes n h = h ∙ ap (λ l. l ++ (f a).notes) n ∙ append_assoc old m.notes (f a).notes

  pub second_ends : (r : Result C Stop) → m.answer ≡ Ok a → mid ≡ old ++ m.notes → Stops view (f a) mid new r → Stops view (m >>= f) old new r
  second_ends (Ok c) e n h = subst (λ r. Stops view (onward m.notes r f) old new (Ok c)) (sym e) (h.0, joined_notes n h.1)
  second_ends (Err (Fault k)) e n h = subst (λ r. Stops view (onward m.notes r f) old new (Err (Fault k))) (sym e) (h.0, joined_notes n h.1)
  second_ends (Err NoMemory) e n h = begins_so old m.notes new (subst (λ l. take (length l) new ≡ l) n h)

-- a first one that stops, stops the whole
pub first_stops : {A B C D : Type 0} (u : C → A) (v : D → B) (m : NumberedOut A) (f : A → NumberedOut B) (old new : List Note) (s : Stop)
    → Stops u m old new (Err s) → Stops v (m >>= f) old new (Err s)
first_stops u v m f old new (Fault k) h = subst (λ r. Stops v (onward m.notes r f) old new (Err (Fault k))) (sym h.0) (refl, h.1)
first_stops u v m f old new NoMemory h = h

-- what stops, stops whatever would be made of its answer
pub mapped_stops : {A B C D : Type 0} (u : C → A) (v : D → B) (m : NumberedOut A) (f : A → B) (old new : List Note) (s : Stop)
    → Stops u m old new (Err s) → Stops v (mapped f m) old new (Err s)
mapped_stops u v m f old new (Fault k) h = (ap (changed f) h.0, h.1)
mapped_stops u v m f old new NoMemory h = h
