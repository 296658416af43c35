-- Slots that are written and put back, and slots that are settled one by one.
use Rattle.std.proofs.Common.{◌≡◌, ℕ, zero, suc, ◌+◌, ◌<◌, List, [], ◌∷◌, ◌++◌, length, map, take, drop, slice_set, slice_get, slice_index_or, Option, Some, None, refl, sym, ap, ◌∙◌, arith, add-one}
use Rattle.evaluation.specs.declared.slot.Slot.{Slot}
use Rattle.activations.specs.Slots.{restored_slots}

restored_cons : (i : ℕ) (x : Slot) (o : Option Slot) (ys : List Slot) → restored_slots (suc i) o (x ∷ ys) ≡ x ∷ restored_slots i o ys
restored_cons i x None ys = refl
restored_cons i x (Some s) ys = refl

there_and_back : (xs : List Slot) (i : ℕ) (s : Slot) → restored_slots i (slice_get xs i) (slice_set xs i s) ≡ xs
there_and_back [] zero s = refl
there_and_back [] (suc i) s = refl
there_and_back (x ∷ xs) zero s = refl
there_and_back (x ∷ xs) (suc i) s = restored_cons i x (slice_get xs i) (slice_set xs i s) ∙ ap (λ ys. x ∷ ys) (there_and_back xs i s)

pub put_back : (xs : List Slot) (i : ℕ) (s : Slot) (held : Option Slot) → held ≡ slice_get xs i → restored_slots i held (slice_set xs i s) ≡ xs
put_back xs i s held e = ap (λ o. restored_slots i o (slice_set xs i s)) e ∙ there_and_back xs i s

-- the first i mapped, and then the rest
abbrev pub mapped_to : {A : Type 0} → (A → A) → ℕ → List A → List A
mapped_to f i xs = map f (take i xs) ++ drop i xs

at_next : {A : Type 0} (f : A → A) (xs : List A) (i : ℕ) (x : A) → i < length xs → x ≡ slice_index_or (mapped_to f i xs) i x → slice_set (mapped_to f i xs) i (f x) ≡ mapped_to f (suc i) xs
at_next f [] i x l e = absurd (omega arith)
at_next f (y ∷ xs) zero x l e = ap (λ z. f z ∷ xs) e
at_next f (y ∷ xs) (suc i) x l e = ap (λ zs. f y ∷ zs) (at_next f xs i x (omega arith) e)

pub at_seam : {A : Type 0} (f : A → A) (xs : List A) (i : ℕ) (x : A) → i < length xs → x ≡ slice_index_or (mapped_to f i xs) i x → slice_set (mapped_to f i xs) i (f x) ≡ mapped_to f (i + 1) xs
at_seam f xs i x l e = at_next f xs i x l e ∙ ap (λ k. mapped_to f k xs) (sym (add-one i))
