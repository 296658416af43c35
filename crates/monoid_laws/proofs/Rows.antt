-- The values of all reducers at once.
use Rattle.std.specs.Prelude.{◌≡◌, ℕ, zero, suc, ◌<◌, List, [], ◌∷◌, length, refl, All}
use Rattle.std.proofs.Common.{sym, ◌∙◌, subst, arith, get_or, set}
use Rattle.std.proofs.lemmas.List.Elements.{All-head, All-tail}
use Rattle.monoid_laws.specs.Worth.{Worth}
use Rattle.monoid_laws.specs.Kinds.{operate, identity_of, operate_all, identities, AreWorths, IsWorth, IsMonoid}
use Rattle.monoid_laws.specs.declared.Kind.{Kind}
use Rattle.monoid_laws.proofs.Laws.{operate_right, identity_right}

pub cons_same : {X : Type 0} (x y : X) (xs ys : List X) → x ≡ y → xs ≡ ys → x ∷ xs ≡ y ∷ ys
cons_same x y xs ys p q = cc

pub operate_all_identities : (cs : List Kind) (xs : List Worth) → All IsMonoid cs → AreWorths cs xs → operate_all cs xs (identities cs) ≡ xs
operate_all_identities [] [] m a = refl
operate_all_identities [] (x ∷ xs) m a = absurd a
operate_all_identities (c ∷ cs) [] m a = absurd a
operate_all_identities (c ∷ cs) (x ∷ xs) m a =
    cons_same _ _ _ _ ((All-head IsMonoid c cs m).right_identity x (a.0)) (operate_all_identities cs xs (All-tail IsMonoid c cs m) (a.1))

-- One reducer's value moves to the left: what both sides give together stays.
pub operate_all_moved : (cs : List Kind) (xs ys : List Worth) (i : ℕ) (c : Kind) (x y : Worth)
    → All IsMonoid cs → AreWorths cs xs → AreWorths cs ys → i < length cs
    → c ≡ get_or cs i c → x ≡ get_or xs i x → y ≡ get_or ys i y
    → operate_all cs (set xs i (operate c x y)) (set ys i (identity_of c)) ≡ operate_all cs xs ys
operate_all_moved [] xs ys i c x y m a b h e f g = absurd (omega arith)
operate_all_moved (d ∷ cs) [] ys i c x y m a b h e f g = absurd a
operate_all_moved (d ∷ cs) (u ∷ xs) [] i c x y m a b h e f g = absurd b
operate_all_moved (d ∷ cs) (u ∷ xs) (v ∷ ys) zero c x y m a b h e f g =
    cons_same _ _ _ _ ((let k : c ≡ d = e in
    let k2 : x ≡ u = f in
    let k3 : y ≡ v = g in
    let r : operate d (operate d u v) (identity_of d) ≡ operate d u v = (All-head IsMonoid d cs m).right_identity (operate d u v) (operate_right d u v (a.0) (b.0)) in
    let s : operate d (operate c x y) (identity_of c) ≡ operate d (operate d u v) (identity_of d) = cc in
    s ∙ r)) refl
operate_all_moved (d ∷ cs) (u ∷ xs) (v ∷ ys) (suc i) c x y m a b h e f g =
    cons_same _ _ _ _ refl (operate_all_moved cs xs ys i c x y (All-tail IsMonoid d cs m) (a.1) (b.1) (omega arith) e f g)

pub AreWorths-set : (cs : List Kind) (xs : List Worth) (i : ℕ) (c : Kind) (x : Worth) → AreWorths cs xs → c ≡ get_or cs i c → IsWorth c x → AreWorths cs (set xs i x)
AreWorths-set [] [] i c x a e h = a
AreWorths-set [] (u ∷ xs) i c x a e h = absurd a
AreWorths-set (d ∷ cs) [] i c x a e h = absurd a
AreWorths-set (d ∷ cs) (u ∷ xs) zero c x a e h = (subst (λ k. IsWorth k x) e h, a.1)
AreWorths-set (d ∷ cs) (u ∷ xs) (suc i) c x a e h = (a.0, AreWorths-set cs xs i c x (a.1) e h)

pub AreWorths-at : (cs : List Kind) (xs : List Worth) (i : ℕ) (c : Kind) (x : Worth) → AreWorths cs xs → i < length cs → c ≡ get_or cs i c → x ≡ get_or xs i x → IsWorth c x
AreWorths-at [] xs i c x a h e f = absurd (omega arith)
AreWorths-at (d ∷ cs) [] i c x a h e f = absurd a
AreWorths-at (d ∷ cs) (u ∷ xs) zero c x a h e f = let p : c ≡ d = e in let q : x ≡ u = f in subst (λ k. IsWorth k x) (sym p) (subst (λ w. IsWorth d w) (sym q) (a.0))
AreWorths-at (d ∷ cs) (u ∷ xs) (suc i) c x a h e f = AreWorths-at cs xs i c x (a.1) (omega arith) e f

pub AreWorths-identities : (cs : List Kind) → AreWorths cs (identities cs)
AreWorths-identities [] = tt
AreWorths-identities (c ∷ cs) = (identity_right c, AreWorths-identities cs)

pub operate_all_right : (cs : List Kind) (xs ys : List Worth) → AreWorths cs xs → AreWorths cs ys → AreWorths cs (operate_all cs xs ys)
operate_all_right [] [] ys a b = tt
operate_all_right [] (x ∷ xs) ys a b = absurd a
operate_all_right (c ∷ cs) [] ys a b = absurd a
operate_all_right (c ∷ cs) (x ∷ xs) [] a b = absurd b
operate_all_right (c ∷ cs) (x ∷ xs) (y ∷ ys) a b = (operate_right c x y (a.0) (b.0), operate_all_right cs xs ys (a.1) (b.1))

pub operate_all_assoc : (cs : List Kind) (xs ys zs : List Worth) → All IsMonoid cs → AreWorths cs xs → AreWorths cs ys → AreWorths cs zs
    → operate_all cs (operate_all cs xs ys) zs ≡ operate_all cs xs (operate_all cs ys zs)
operate_all_assoc [] xs ys zs m a b d = refl
operate_all_assoc (c ∷ cs) [] ys zs m a b d = absurd a
operate_all_assoc (c ∷ cs) (x ∷ xs) [] zs m a b d = absurd b
operate_all_assoc (c ∷ cs) (x ∷ xs) (y ∷ ys) [] m a b d = absurd d
operate_all_assoc (c ∷ cs) (x ∷ xs) (y ∷ ys) (z ∷ zs) m a b d =
    cons_same _ _ _ _ ((All-head IsMonoid c cs m).associative x y z (a.0) (b.0) (d.0)) (operate_all_assoc cs xs ys zs (All-tail IsMonoid c cs m) (a.1) (b.1) (d.1))
