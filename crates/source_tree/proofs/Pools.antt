-- Names that are put last into a pool.
use Rattle.std.proofs.Common.{◌≡◌, ℕ, suc, Bool, true, false, cond, List, [], ◌∷◌, ◌++◌, length, Option, Some, None, refl, sym, ap, ◌∙◌, ◌⊎◌, inl, inr}
use Rattle.std.specs.Prelude.{bytes_eq, is_some}
use Rattle.std.specs.Option.{option_map}
use Rattle.std.proofs.lemmas.Slice.Eq.{bytes_eq-Decides}
use Rattle.meaning.specs.Tree.{Name}
use Rattle.token_scanner.specs.Words.{for_some}
use Rattle.source_tree.specs.Lowering.{found_index, with_index}

on_bool : (b : Bool) → (b ≡ true) ⊎ (b ≡ false)
on_bool true = inl refl
on_bool false = inr refl

later : (b : Bool) (o : Option ℕ) (n : ℕ) → option_map (λ n. suc n) (for_some o (cond b (Some n) None) (λ k. Some k)) ≡ for_some (option_map (λ n. suc n) o) (cond b (Some (suc n)) None) (λ k. Some k)
later b (Some k) n = refl
later true None n = refl
later false None n = refl

pub place_push : (x y : Name) (ys : List Name) → found_index x (ys ++ y ∷ []) ≡ for_some (found_index x ys) (cond (bytes_eq x y) (Some (length ys)) None) (λ k. Some k)
place_push x y [] = refl
place_push x y (z ∷ ys) =
    elim (on_bool (bytes_eq x z)) [
      | inl h ↦ rw h refl
      | inr h ↦ rw (h, place_push x y ys) (later (bytes_eq x y) (found_index x ys) (length ys))
    ]

unseen : {A : Type 0} (o : Option A) → is_some o ≡ false → o ≡ None
unseen None h = refl
unseen (Some x) h = absurd cc

same : (o : Option ℕ) → for_some o None (λ k. Some k) ≡ o
same None = refl
same (Some k) = refl

module _ (places : Name → Option ℕ) (y : Name) (n : ℕ) (x : Name) where
  pub index_new : is_some (places y) ≡ false → cond (bytes_eq y x) (Some n) (places x) ≡ with_index places y n x
  index_new u =
      elim (on_bool (bytes_eq y x)) [
        | inl t ↦
            let e : y ≡ x = (bytes_eq-Decides y x).0 t in
            let q : bytes_eq x y ≡ true = (bytes_eq-Decides x y).1 (sym e) in
            let h : places x ≡ None = ap places (sym e) ∙ unseen (places y) u in
            rw (t, h, q) refl
        | inr f ↦
            let q : bytes_eq x y ≡ false = elim (on_bool (bytes_eq x y)) [
              | inl t ↦ absurd (let g : bytes_eq y x ≡ true = (bytes_eq-Decides y x).1 (sym ((bytes_eq-Decides x y).0 t)) in cc)
              | inr f ↦ f
            ] in
            rw (f, q) (sym (same (places x)))
      ]
