-- What a change of the last piece, or another piece, makes of a value in pieces.
use Rattle.std.specs.Prelude.{◌≡◌, ℕ, zero, suc, ◌<◌, ◌≤◌, ◌+◌, ◌-◌, ℤ, ◌<ℤ◌, List, [], ◌∷◌, ◌++◌, map, take, length, refl}
use Rattle.std.proofs.Common.{sym, ◌∙◌, ap, subst, arith, append_assoc, append-nil, add-one, get_or, set}
use Rattle.std.proofs.lemmas.Int.{ints}
use Rattle.std.proofs.lemmas.List.{map-append}
use Rattle.std.proofs.Math.Seq.{map-set_same}
use Rattle.monoid_laws.specs.Kinds.{joined, merge, merged, AreAbove, IsRising}
use Rattle.monoid_laws.proofs.Amounts.{merge_assoc, merge_nil}
use Rattle.reducer_values.proofs.JoinedPieces.{joined-push, merged-push}

module _ {P : Type 0} where
  pub joined_last : (f : P → List ℤ) (ps : List P) (i : ℕ) (old new : P) (xs : List ℤ) → suc i ≡ length ps → old ≡ get_or ps i old → f new ≡ f old ++ xs
      → joined (map f (set ps i new)) ≡ joined (map f ps) ++ xs
  joined_last f [] i old new xs h is e = absurd (omega arith)
  joined_last f (p ∷ []) zero old new xs h is e =
      append-nil (f new) ∙ e ∙ ap (λ q. f q ++ xs) is ∙ ap (λ l. l ++ xs) (sym (append-nil (f p)))
  joined_last f (p ∷ q ∷ ps) zero old new xs h is e = absurd (omega (arith, h))
  joined_last f (p ∷ []) (suc i) old new xs h is e = absurd (omega (arith, h))
  joined_last f (p ∷ q ∷ ps) (suc i) old new xs h is e =
      ap (λ l. f p ++ l) (joined_last f (q ∷ ps) i old new xs (omega (arith, h)) is e) ∙ sym (append_assoc (f p) (joined (map f (q ∷ ps))) xs)

  pub merged_last : (f : P → List (ℤ × ℤ)) (ps : List P) (i : ℕ) (old new : P) (ys : List (ℤ × ℤ)) → IsRising ys → suc i ≡ length ps → old ≡ get_or ps i old → f new ≡ merge (f old) ys
      → merged (map f (set ps i new)) ≡ merge (merged (map f ps)) ys
  merged_last f [] i old new ys r h is e = absurd (omega arith)
  merged_last f (p ∷ []) zero old new ys r h is e =
      ap (λ l. merge l []) (e ∙ ap (λ q. merge (f q) ys) is) ∙ merge_assoc (f p) ys [] ∙ ap (merge (f p)) (merge_nil ys r) ∙ sym (merge_assoc (f p) [] ys)
  merged_last f (p ∷ q ∷ ps) zero old new ys r h is e = absurd (omega (arith, h))
  merged_last f (p ∷ []) (suc i) old new ys r h is e = absurd (omega (arith, h))
  merged_last f (p ∷ q ∷ ps) (suc i) old new ys r h is e =
      ap (merge (f p)) (merged_last f (q ∷ ps) i old new ys r (omega (arith, h)) is e) ∙ sym (merge_assoc (f p) (merged (map f (q ∷ ps))) ys)

  pub same_last : {X : Type 0} (f : P → X) (ps : List P) (i : ℕ) (old new : P) → old ≡ get_or ps i old → f new ≡ f old → map f (set ps i new) ≡ map f ps
  same_last f ps i old new is e = map-set_same f ps i new old (e ∙ ap f is)

  pub at_item : {X : Type 0} (f : P → List X) (ps : List P) (i : ℕ) (p : P) → i < length ps → p ≡ get_or ps i p → get_or (map f ps) i [] ≡ f p
  at_item f [] i p h is = absurd (omega arith)
  at_item f (q ∷ ps) zero p h is = ap f (sym is)
  at_item f (q ∷ ps) (suc i) p h is = at_item f ps i p (omega (arith, h)) is

  -- another piece
  pub joined_more : (f : P → List ℤ) (ps : List P) (p : P) (xs : List ℤ) → f p ≡ xs → joined (map f (ps ++ p ∷ [])) ≡ joined (map f ps) ++ xs
  joined_more f ps p xs e = ap joined (map-append f ps (p ∷ [])) ∙ joined-push (map f ps) (f p) ∙ ap (λ l. joined (map f ps) ++ l) e

  pub merged_more : (f : P → List (ℤ × ℤ)) (ps : List P) (p : P) (ys : List (ℤ × ℤ)) → IsRising (f p) → f p ≡ ys → merged (map f (ps ++ p ∷ [])) ≡ merge (merged (map f ps)) ys
  merged_more f ps p ys r e = ap merged (map-append f ps (p ∷ [])) ∙ merged-push (map f ps) (f p) r ∙ ap (merge (merged (map f ps))) e

  -- the last one and one behind it as one
  pub merged_two : (f : P → List (ℤ × ℤ)) (all rest new : List P) (p : P) → all ≡ rest ++ p ∷ [] → IsRising (f p) → merged (map f new) ≡ merge (merged (map f rest)) (f p) → merged (map f new) ≡ merged (map f all)
  merged_two f all rest new p is r e = e ∙ sym (ap (λ l. merged (map f l)) is ∙ merged_more f rest p (f p) r refl)

-- ---- keys that rise
above_more : (j k : ℤ) (es : List (ℤ × ℤ)) → j <ℤ k → AreAbove k es → AreAbove j es
above_more j k [] h a = tt
above_more j k (e ∷ es) h a = (let x : k <ℤ e.0 = a.0 in omega (arith, ints), above_more j k es h (a.1))

pub rising_step : (xs : List (ℤ × ℤ)) (i : ℕ) (a b : ℤ × ℤ) → suc i < length xs → a ≡ get_or xs i a → b ≡ get_or xs (suc i) b → a.0 <ℤ b.0
    → IsRising (take (suc i) xs) → IsRising (take (suc (suc i)) xs)
rising_step [] i a b h e f g r = absurd (omega arith)
rising_step (x ∷ []) i a b h e f g r = absurd (omega (arith, h))
rising_step (x ∷ y ∷ xs) zero a b h e f g r =
    ((subst (λ (q : ℤ × ℤ). q.0 <ℤ y.0) e (subst (λ (q : ℤ × ℤ). a.0 <ℤ q.0) f g), tt), (tt, tt))
rising_step (x ∷ y ∷ xs) (suc i) a b h e f g r =
    let s : IsRising (take (suc (suc i)) (y ∷ xs)) = rising_step (y ∷ xs) i a b (omega (arith, h)) e f g (r.1) in
    ((r.0.0, above_more (x.0) (y.0) (take (suc i) xs) (r.0.0) (s.0)), s)

-- one key more
pub rising_next : (xs : List (ℤ × ℤ)) (i : ℕ) (a b : ℤ × ℤ) → 1 ≤ i → i < length xs → a ≡ get_or xs (i - 1) a → b ≡ get_or xs i b → a.0 <ℤ b.0
    → IsRising (take i xs) → IsRising (take (i + 1) xs)
rising_next xs zero a b l h e f g r = absurd (omega arith)
rising_next xs (suc i) a b l h e f g r =
    let s : suc i - 1 ≡ i = omega arith in
    rw (add-one (suc i)) (rising_step xs i a b h (subst (λ (k : ℕ). a ≡ get_or xs k a) s e) f g r)
