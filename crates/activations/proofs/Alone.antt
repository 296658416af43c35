-- Slots of which the first holds a number, and the others hold nothing.
use Rattle.std.proofs.Common.{◌≡◌, ◌∙◌, ℕ, zero, suc, ◌+◌, ◌-◌, ◌<◌, ℤ, List, [], ◌∷◌, map, length, replicate, slice_set, refl, sym, ap, arith, add-one}
use Rattle.evaluation.specs.declared.slot.Slot.{Slot}
use Rattle.evaluation.specs.declared.slot.Slot.TheVariants.{Unset, Has}
use Rattle.evaluation.specs.Slots.{slots_for}
use Rattle.activations.specs.Slots.{emptied}
use Rattle.activations.proofs.Slots.{mapped_to}

emptied_next : (xs : List Slot) (i : ℕ) → i < length xs → slice_set (mapped_to emptied i xs) i Unset ≡ mapped_to emptied (suc i) xs
emptied_next [] i l = absurd (omega (arith, l))
emptied_next (y ∷ xs) zero l = refl
emptied_next (y ∷ xs) (suc i) l = ap (λ (zs : List Slot). Unset ∷ zs) (emptied_next xs i (omega (arith, l)))

pub emptied_to : (xs : List Slot) (i : ℕ) → i < length xs → slice_set (mapped_to emptied i xs) i Unset ≡ mapped_to emptied (i + 1) xs
emptied_to xs i l = emptied_next xs i l ∙ ap (λ (k : ℕ). mapped_to emptied k xs) (sym (add-one i))

all_emptied : (xs : List Slot) → map emptied xs ≡ replicate (length xs) Unset
all_emptied [] = refl
all_emptied (x ∷ xs) = ap (λ (ys : List Slot). Unset ∷ ys) (all_emptied xs)

alone : (m : ℕ) (v : ℤ) → slots_for (suc m) (v ∷ []) ≡ Has v ∷ replicate m Unset
alone zero v = refl
alone (suc m) v =
    let e : suc (suc m) - 1 ≡ suc m = omega arith in
    ap (λ (k : ℕ). Has v ∷ replicate k Unset) e

pub put_alone : (xs : List Slot) (v : ℤ) → 0 < length xs → slice_set (map emptied xs) 0 (Has v) ≡ slots_for (length xs) (v ∷ [])
put_alone [] v h = absurd (omega (arith, h))
put_alone (x ∷ xs) v h = ap (λ (ys : List Slot). Has v ∷ ys) (all_emptied xs) ∙ sym (alone (length xs) v)
