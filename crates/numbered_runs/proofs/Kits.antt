-- Kits of the program's kinds, of which one was taken.
use Rattle.std.proofs.Common.{arith, ◌≡◌, ◌+◌, ◌<◌, List, [], ◌∷◌, ◌++◌, All, length, get_or, refl, subst, length-append}
use Rattle.std.proofs.lemmas.List.{take_at, get_or_at}
use Rattle.std.proofs.lemmas.List.Elements.{All-take, All-get_or}
use Rattle.monoid_laws.specs.declared.Kind.{Kind}

module _ (kinds : List Kind) (kits ks : List (List Kind)) (k : List Kind) (is : kits ≡ ks ++ k ∷ []) (all : All (λ x. x ≡ kinds) kits) where
  -- a kit that was taken
  pub taken_kit : k ≡ kinds
  taken_kit =
      let less : length ks < length (ks ++ k ∷ []) = let e : length (ks ++ k ∷ []) ≡ length ks + 1 = length-append ks (k ∷ []) in omega arith in
      let here : get_or (ks ++ k ∷ []) (length ks) k ≡ kinds = All-get_or (λ x. x ≡ kinds) (ks ++ k ∷ []) (length ks) k less (subst (All (λ x. x ≡ kinds)) is all) in
      subst (λ x. x ≡ kinds) (get_or_at ks k [] k (length ks) refl) here

  pub left_kits : All (λ x. x ≡ kinds) ks
  left_kits = subst (All (λ x. x ≡ kinds)) (take_at ks (k ∷ []) (length ks) refl) (All-take (λ x. x ≡ kinds) (length ks) (ks ++ k ∷ []) (subst (All (λ x. x ≡ kinds)) is all))
