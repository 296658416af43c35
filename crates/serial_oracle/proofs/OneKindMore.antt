-- The identities of kinds, one after the other.
use Rattle.std.proofs.Common.{◌≡◌, ◌<◌, ◌+◌, ℕ, List, [], ◌∷◌, ◌++◌, length, drop, get_or, map, sym, ap, ◌∙◌, append_assoc}
use Rattle.std.proofs.lemmas.List.{drop_more, map-append}
use Rattle.monoid_laws.specs.declared.Kind.{Kind}
use Rattle.monoid_laws.specs.declared.Val.{Val}
use Rattle.monoid_laws.specs.Worth.{Worth}
use Rattle.monoid_laws.specs.Kinds.{meaning, identities, identity_of}

pub one_identity : (kinds : List Kind) (i : ℕ) (k : Kind) (values more : List Val) (v : Val) → i < length kinds → k ≡ get_or kinds i k
    → more ≡ values ++ v ∷ [] → meaning v ≡ identity_of k → identities kinds ≡ map meaning values ++ identities (drop i kinds)
    → identities kinds ≡ map meaning more ++ identities (drop (i + 1) kinds)
one_identity kinds i k values more v there here longer is so_far =
    let rest = identities (drop (i + 1) kinds) in
    let left : drop i kinds ≡ k ∷ drop (i + 1) kinds = drop_more kinds i k there ∙ ap (λ y. y ∷ drop (i + 1) kinds) (sym here) in
    let all : map meaning more ≡ map meaning values ++ meaning v ∷ [] = ap (map meaning) longer ∙ map-append meaning values (v ∷ []) in
    so_far ∙ ap (λ l. map meaning values ++ identities l) left
    ∙ ap (λ (w : Worth). map meaning values ++ w ∷ rest) (sym is)
    ∙ sym (append_assoc (map meaning values) (meaning v ∷ []) rest)
    ∙ ap (λ l. l ++ rest) (sym all)
