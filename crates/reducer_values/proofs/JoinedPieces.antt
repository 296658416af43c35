-- Lists in pieces.
use Rattle.std.specs.Prelude.{All, ◌≡◌, ℕ, ◌<◌, ℤ, List, [], ◌∷◌, ◌++◌, map, take, length, refl, ◌+◌}
use Rattle.std.proofs.Common.{subst, sym, ◌∙◌, ap, arith, append_assoc, append-nil, get_or, add-one}
use Rattle.std.proofs.lemmas.List.Elements.{All-head, All-tail, All-cons, All-nil, All-push}
use Rattle.std.proofs.Math.Seq.{take-suc}
use Rattle.std.proofs.lemmas.List.{map-append}
use Rattle.monoid_laws.specs.Kinds.{joined, merge, merged, IsRising}
use Rattle.monoid_laws.proofs.Amounts.{merge_assoc, merge_nil, merge_nothing}

pub joined-append : (xs ys : List (List ℤ)) → joined (xs ++ ys) ≡ joined xs ++ joined ys
joined-append [] ys = refl
joined-append (x ∷ xs) ys = ap (λ r. x ++ r) (joined-append xs ys) ∙ sym (append_assoc x (joined xs) (joined ys))

pub joined-push : (xs : List (List ℤ)) (y : List ℤ) → joined (xs ++ y ∷ []) ≡ joined xs ++ y
joined-push xs y = joined-append xs (y ∷ []) ∙ ap (λ r. joined xs ++ r) (append-nil y)

pub merged-append : (xs ys : List (List (ℤ × ℤ))) → merged (xs ++ ys) ≡ merge (merged xs) (merged ys)
merged-append [] ys = refl
merged-append (x ∷ xs) ys = ap (merge x) (merged-append xs ys) ∙ sym (merge_assoc x (merged xs) (merged ys))

pub joined_step : {P : Type 0} (f : P → List ℤ) (ps : List P) (i : ℕ) (p : P) (list more : List ℤ) → i < length ps → p ≡ get_or ps i p
    → list ≡ joined (map f (take i ps)) → more ≡ list ++ f p → more ≡ joined (map f (take (i + 1) ps))
joined_step f ps i p list more h is so_far step =
    rw (add-one i) (step ∙ ap (λ l. l ++ f p) so_far ∙ sym (ap (λ l. joined (map f l)) ((take-suc ps i p h ∙ ap (λ x. take i ps ++ x ∷ []) (sym is))) ∙ ap joined (map-append f (take i ps) (p ∷ [])) ∙ joined-push (map f (take i ps)) (f p)))

-- and behind a list that was there before
pub joined_behind : {P : Type 0} (f : P → List ℤ) (ps : List P) (i : ℕ) (p : P) (base list more : List ℤ) → i < length ps → p ≡ get_or ps i p
    → list ≡ base ++ joined (map f (take i ps)) → more ≡ list ++ f p → more ≡ base ++ joined (map f (take (i + 1) ps))
joined_behind f ps i p base list more h is so_far step =
    step ∙ ap (λ l. l ++ f p) so_far ∙ append_assoc base (joined (map f (take i ps))) (f p)
    ∙ ap (λ l. base ++ l) (joined_step f ps i p (joined (map f (take i ps))) (joined (map f (take i ps)) ++ f p) h is refl refl)

pub merged-push : (xs : List (List (ℤ × ℤ))) (y : List (ℤ × ℤ)) → IsRising y → merged (xs ++ y ∷ []) ≡ merge (merged xs) y
merged-push xs y h = merged-append xs (y ∷ []) ∙ ap (merge (merged xs)) (merge_nil y h)

append_nothing : (xs ys : List ℤ) → xs ++ ys ≡ [] → (xs ≡ []) × (ys ≡ [])
append_nothing [] ys h = (refl, h)
append_nothing (x ∷ xs) ys h = cc

module _ {P : Type 0} where
  pub joined_blank : (f : P → List ℤ) (ps : List P) → All (λ p. f p ≡ []) ps → joined (map f ps) ≡ []
  joined_blank f [] h = refl
  joined_blank f (p ∷ ps) h = ap (λ l. l ++ joined (map f ps)) (All-head (λ p. f p ≡ []) p ps h) ∙ joined_blank f ps (All-tail (λ p. f p ≡ []) p ps h)

  pub blank_joined : (f : P → List ℤ) (ps : List P) → joined (map f ps) ≡ [] → All (λ p. f p ≡ []) ps
  blank_joined f [] h = All-nil (λ p. f p ≡ [])
  blank_joined f (p ∷ ps) h =
      let n : (f p ≡ []) × (joined (map f ps) ≡ []) = append_nothing (f p) (joined (map f ps)) h in
      All-cons (λ p. f p ≡ []) p ps n.0 (blank_joined f ps n.1)

  pub merged_blank : (f : P → List (ℤ × ℤ)) (ps : List P) → All (λ p. f p ≡ []) ps → merged (map f ps) ≡ []
  merged_blank f [] h = refl
  merged_blank f (p ∷ ps) h = ap (λ l. merge l (merged (map f ps))) (All-head (λ p. f p ≡ []) p ps h) ∙ merged_blank f ps (All-tail (λ p. f p ≡ []) p ps h)

  pub blank_merged : (f : P → List (ℤ × ℤ)) (ps : List P) → merged (map f ps) ≡ [] → All (λ p. f p ≡ []) ps
  blank_merged f [] h = All-nil (λ p. f p ≡ [])
  blank_merged f (p ∷ ps) h =
      let n : (f p ≡ []) × (merged (map f ps) ≡ []) = merge_nothing (f p) (merged (map f ps)) h in
      All-cons (λ p. f p ≡ []) p ps n.0 (blank_merged f ps n.1)

  pub all_step : (Q : P → Type 0) (ps : List P) (i : ℕ) (p : P) → i < length ps → p ≡ get_or ps i p → All Q (take i ps) → Q p → All Q (take (i + 1) ps)
  all_step Q ps i p h is a q =
      rw (add-one i) (subst (λ l. All Q l) (sym (take-suc ps i p h ∙ ap (λ x. take i ps ++ x ∷ []) (sym is))) (All-push Q (take i ps) p a q))

pub nothing_in : {X : Type 0} (xs : List X) → length xs ≡ 0 → xs ≡ []
nothing_in [] h = refl
nothing_in (x ∷ xs) h = absurd (omega arith)
