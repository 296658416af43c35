-- Slots that are put in place one after another.
use Rattle.std.proofs.Common.{◌≡◌, ◌∙◌, ℕ, zero, suc, ◌+◌, ◌-◌, ◌<◌, ◌≤◌, ℤ, List, [], ◌∷◌, ◌++◌, take, drop, length, map, replicate, refl, sym, ap, subst, arith, Result, Ok, Err, Option, Some, None}
use Rattle.std.proofs.Math.Seq.{take-length}
use Rattle.std.proofs.lemmas.List.{take_more_set, append_assoc, append-nil, drop_all}
use Rattle.std.specs.Prelude.{slice_get, slice_set}
use Rattle.meaning.specs.declared.FaultKind.{FaultKind}
use Rattle.meaning.specs.Tables.{Tables}
use Rattle.linked_program.specs.Linked.{Linked}
use Rattle.evaluation.specs.declared.slot.Slot.{Slot}
use Rattle.evaluation.specs.declared.slot.Slot.TheVariants.{Unset, Has}
use Rattle.evaluation.specs.declared.stop.Stop.{Stop}
use Rattle.evaluation.specs.declared.stop.Stop.TheVariants.{NoMemory, Fault}
use Rattle.evaluation.specs.Ends.{Answers}
use Rattle.evaluation.specs.Slots.{slots_for}
use Rattle.evaluation.specs.Values.{NumberedOut, value_at, values_at, slot_by, changed, onward, behind, mapped}
use Rattle.evaluation.proofs.Slots.{past_end, both_less, none_less}

slots_more : (m : ℕ) (v : ℤ) (vs : List ℤ) → slots_for (suc m) (v ∷ vs) ≡ Has v ∷ slots_for m vs
slots_more m v vs = ap (λ (xs : List Slot). Has v ∷ (take m (map Has vs) ++ xs)) (both_less m (map Has vs))

padded_none : (m : ℕ) → slots_for m [] ≡ replicate m Unset
padded_none zero = refl
padded_none (suc m) = ap (λ (k : ℕ). replicate k Unset) (none_less (suc m))

slots_none : (m : ℕ) → slots_for (suc m) [] ≡ Unset ∷ slots_for m []
slots_none m = padded_none (suc m) ∙ ap (λ (xs : List Slot). Unset ∷ xs) (sym (padded_none m))

put_more : (made xs : List Slot) (i : ℕ) (x : Slot) → i < length made → take (i + 1) (slice_set made i x) ++ xs ≡ take i made ++ x ∷ xs
put_more made xs i x h = ap (λ (ys : List Slot). ys ++ xs) (take_more_set made i x h) ∙ append_assoc (take i made) (x ∷ []) xs

-- the slots so far, and those of the arguments that are left
abbrev pub so_far : List Slot → ℕ → ℕ → List ℤ → List Slot
so_far made n i vs = take i made ++ slots_for (n - i) vs

has_more : (made : List Slot) (n i : ℕ) (v : ℤ) (vs : List ℤ) → i < n → length made ≡ n
    → so_far made n i (v ∷ vs) ≡ so_far (slice_set made i (Has v)) n (i + 1) vs
has_more made n i v vs h long =
    let e : n - i ≡ suc (n - (i + 1)) = omega (arith, h) in
    let less : i < length made = omega (arith, h, long) in
    ap (λ (k : ℕ). take i made ++ slots_for k (v ∷ vs)) e ∙ ap (λ (xs : List Slot). take i made ++ xs) (slots_more (n - (i + 1)) v vs)
    ∙ sym (put_more made (slots_for (n - (i + 1)) vs) i (Has v) less)

none_more : (made : List Slot) (n i : ℕ) → i < n → length made ≡ n
    → so_far made n i [] ≡ so_far (slice_set made i Unset) n (i + 1) []
none_more made n i h long =
    let e : n - i ≡ suc (n - (i + 1)) = omega (arith, h) in
    let less : i < length made = omega (arith, h, long) in
    ap (λ (k : ℕ). take i made ++ slots_for k []) e ∙ ap (λ (xs : List Slot). take i made ++ xs) (slots_none (n - (i + 1)))
    ∙ sym (put_more made (slots_for (n - (i + 1)) []) i Unset less)

-- all slots are in place
all_put : (made : List Slot) (n : ℕ) (vs : List ℤ) → length made ≡ n → so_far made n n vs ≡ made
all_put made n vs long =
    let e : n - n ≡ 0 = omega arith in
    ap (λ (k : ℕ). take n made ++ slots_for k vs) e ∙ ap (λ (xs : List Slot). take n made ++ xs) (past_end (length (map Has vs))) ∙ append-nil (take n made)
    ∙ ap (λ (k : ℕ). take k made) (sym long) ∙ take-length made

-- what is left from a place on, by what stands there
abbrev Parted : List Linked → ℕ → Option Linked → Type 0
Parted es i None = (drop i es ≡ []) × (drop (i + 1) es ≡ [])
Parted es i (Some e) = drop i es ≡ e ∷ drop (i + 1) es

drop_next : (e : Linked) (es : List Linked) (i : ℕ) → drop (suc i + 1) (e ∷ es) ≡ drop (i + 1) es
drop_next e es i =
    let h : suc i + 1 ≡ suc (i + 1) = omega arith in
    ap (λ (k : ℕ). drop k (e ∷ es)) h

parted_on : (e : Linked) (es : List Linked) (i : ℕ) (o : Option Linked) → Parted es i o → Parted (e ∷ es) (suc i) o
parted_on e es i None h = (h.0, drop_next e es i ∙ h.1)
parted_on e es i (Some f) h = h ∙ ap (λ (xs : List Linked). f ∷ xs) (sym (drop_next e es i))

parted : (es : List Linked) (i : ℕ) → Parted es i (slice_get es i)
parted [] zero = (refl, refl)
parted [] (suc i) = (refl, let h : suc i + 1 ≡ suc (i + 1) = omega arith in ap (λ (k : ℕ). drop k []) h)
parted (e ∷ es) zero = refl
parted (e ∷ es) (suc i) = parted_on e es i (slice_get es i) (parted es i)

after_ok : (f g : List ℤ → List Slot) (v : ℤ) (x : Result (List ℤ) FaultKind) → ((vs : List ℤ) → f (v ∷ vs) ≡ g vs)
    → changed f (changed (λ vs. v ∷ vs) x) ≡ changed g x
after_ok f g v (Ok vs) h = ap Ok (h vs)
after_ok f g v (Err k) h = refl

is_ok : (x : Result ℤ FaultKind) (s : Slot) → changed Has x ≡ Ok s → (v : ℤ) × (x ≡ Ok v) × (s ≡ Has v)
is_ok (Ok v) s h = (v, refl, cc)
is_ok (Err k) s h = absurd cc

is_err : (x : Result ℤ FaultKind) (k : FaultKind) → changed Has x ≡ Err k → x ≡ Err k
is_err (Ok v) k h = absurd cc
is_err (Err j) k h = cc

module _ (ts : Tables) (slots : List Slot) where
  -- the answer of the values that are left, by that of the first of them
  first_ok : (e : Linked) (es : List Linked) (v : ℤ) → (value_at ts slots e).answer ≡ Ok v
      → (values_at ts slots (e ∷ es)).answer ≡ changed (λ vs. v ∷ vs) (values_at ts slots es).answer
  first_ok e es v h =
      ap (λ (r : Result ℤ FaultKind). (onward (value_at ts slots e).notes r (λ w. mapped (λ vs. w ∷ vs) (values_at ts slots es))).answer) h

  first_err : (e : Linked) (es : List Linked) (k : FaultKind) → (value_at ts slots e).answer ≡ Err k → (values_at ts slots (e ∷ es)).answer ≡ Err k
  first_err e es k h =
      ap (λ (r : Result ℤ FaultKind). (onward (value_at ts slots e).notes r (λ w. mapped (λ vs. w ∷ vs) (values_at ts slots es))).answer) h

  -- one more slot is put in place
  put_by : (es : List Linked) (i n : ℕ) (made : List Slot) (s : Slot) (o : Option Linked) → Parted es i o → i < n → length made ≡ n
      → (slot_by ts slots o).answer ≡ Ok s
      → changed (so_far made n i) (values_at ts slots (drop i es)).answer
      ≡ changed (so_far (slice_set made i s) n (i + 1)) (values_at ts slots (drop (i + 1) es)).answer
  put_by es i n made s None p h long is =
      let unset : Unset ≡ s = cc in
      ap (λ (xs : List Linked). changed (so_far made n i) (values_at ts slots xs).answer) p.0
      ∙ ap Ok (none_more made n i h long)
      ∙ ap (λ (t : Slot). Ok (so_far (slice_set made i t) n (i + 1) [])) unset
      ∙ ap (λ (xs : List Linked). changed (so_far (slice_set made i s) n (i + 1)) (values_at ts slots xs).answer) (sym p.1)
  put_by es i n made s (Some e) p h long is =
      let found = is_ok (value_at ts slots e).answer s is in
      let v = found.0 in
      ap (λ (xs : List Linked). changed (so_far made n i) (values_at ts slots xs).answer) p
      ∙ ap (λ (r : Result (List ℤ) FaultKind). changed (so_far made n i) r) (first_ok e (drop (i + 1) es) v found.1)
      ∙ after_ok (so_far made n i) (so_far (slice_set made i (Has v)) n (i + 1)) v (values_at ts slots (drop (i + 1) es)).answer (λ vs. has_more made n i v vs h long)
      ∙ ap (λ (t : Slot). changed (so_far (slice_set made i t) n (i + 1)) (values_at ts slots (drop (i + 1) es)).answer) (sym found.2)

  pub put_next : (es : List Linked) (i n : ℕ) (made : List Slot) (s : Slot) → i < n → length made ≡ n
      → (slot_by ts slots (slice_get es i)).answer ≡ Ok s
      → changed (so_far made n i) (values_at ts slots (drop i es)).answer
      ≡ changed (so_far (slice_set made i s) n (i + 1)) (values_at ts slots (drop (i + 1) es)).answer
  put_next es i n made s h long is = put_by es i n made s (slice_get es i) (parted es i) h long is

  fault_by : (es : List Linked) (i : ℕ) (f : List ℤ → List Slot) (k : FaultKind) (o : Option Linked) → Parted es i o → (slot_by ts slots o).answer ≡ Err k
      → changed f (values_at ts slots (drop i es)).answer ≡ Err k
  fault_by es i f k None p is = absurd cc
  fault_by es i f k (Some e) p is =
      ap (λ (xs : List Linked). changed f (values_at ts slots xs).answer) p
      ∙ ap (λ (r : Result (List ℤ) FaultKind). changed f r) (first_err e (drop (i + 1) es) k (is_err (value_at ts slots e).answer k is))

  -- a fault of the slot at a place is that of the values that are left
  fault_next : (es : List Linked) (i : ℕ) (f : List ℤ → List Slot) (k : FaultKind) → (slot_by ts slots (slice_get es i)).answer ≡ Err k
      → changed f (values_at ts slots (drop i es)).answer ≡ Err k
  fault_next es i f k is = fault_by es i f k (slice_get es i) (parted es i) is

  -- want of memory, or a fault of the slot at a place, ends as that
  pub stopped : (es : List Linked) (i : ℕ) (f : List ℤ → List Slot) (o : NumberedOut (List Slot)) (stop : Stop)
      → o.answer ≡ changed f (values_at ts slots (drop i es)).answer → Answers {A = Slot} {B = Slot} (λ s. s) (slot_by ts slots (slice_get es i)) (Err stop)
      → Answers {A = List Slot} {B = List Slot} (λ xs. xs) o (Err stop)
  stopped es i f o (Fault k) is h = is ∙ fault_next es i f k h
  stopped es i f o NoMemory is h = tt

  -- no argument is left
  pub all_done : (es : List Linked) (n : ℕ) (made : List Slot) → length es ≤ n → length made ≡ n
      → changed (so_far made n n) (values_at ts slots (drop n es)).answer ≡ Ok made
  all_done es n made few long =
      ap (λ (xs : List Linked). changed (so_far made n n) (values_at ts slots xs).answer) (drop_all n es few) ∙ ap Ok (all_put made n [] long)
