-- Values that are known move to another layer, where that is done at once.
use Rattle.std.specs.Prelude.{◌≡◌, ℕ, suc, ◌<◌, List, [], ◌∷◌, length, Bool, true, false, refl, map, Result, Ok, Err, OnOk, OnErr}
use Rattle.std.proofs.Common.{sym, ◌∙◌, ap, subst, arith, get_or, set}
use Rattle.std.proofs.Math.ListN.{length-map}
use Rattle.monoid_laws.specs.Worth.{Worth}
use Rattle.monoid_laws.specs.Kinds.{identity_of, identities, AreWorths}
use Rattle.monoid_laws.specs.declared.Kind.{Kind}
use Rattle.monoid_laws.proofs.Laws.{identity_right}
use Rattle.monoid_laws.proofs.Rows.{AreWorths-set}
use Rattle.hypermaps.specs.Layer.{IsLayer}
use Rattle.hypermaps.proofs.Folds.{IsLayer-back, exists_at}

-- whether it was done, as a result
abbrev pub result_of : Bool → Result (Unit {0}) (Unit {0})
result_of true = Ok tt
result_of false = Err tt

pub on_done : (b : Bool) (P : Type 0) → (b ≡ true → P) → OnOk (result_of b) P
on_done true P f = f refl
on_done false P f = tt

pub on_undone : (b : Bool) (P : Type 0) → (b ≡ false → P) → OnErr (result_of b) P
on_undone true P f = tt
on_undone false P f = f refl

pub if_done : (b : Bool) (P : Type 0) → OnOk (result_of b) P → b ≡ true → P
if_done true P h e = h
if_done false P h e = absurd cc

pub if_undone : (b : Bool) (P : Type 0) → OnErr (result_of b) P → b ≡ false → P
if_undone true P h e = absurd cc
if_undone false P h e = h

-- one reducer was put back to its identity, or nothing has changed
pub layer_by : (b : Bool) (cs ds : List Kind) (ws vs : List Worth) (used : List ℕ) (r : ℕ) (c : Kind) → ds ≡ cs → (b ≡ true → vs ≡ set ws r (identity_of c)) → (b ≡ false → vs ≡ ws)
    → r < length cs → c ≡ get_or cs r c → IsLayer cs ws used → IsLayer ds vs used
layer_by true cs ds ws vs used r c k moved same less is l = rw (k, moved refl) (IsLayer-back cs ws used r c l less is)
layer_by false cs ds ws vs used r c k moved same less is l = rw (k, same refl) l

-- as many views as values
two_views : {X : Type 0} (worth : X → Worth) (xs : List X) (a b : Worth) → map worth xs ≡ a ∷ b ∷ [] → length xs ≡ 2
two_views worth xs a b e = sym (length-map xs worth) ∙ ap length e

as_many : {X Y : Type 0} (kind : X → Y) (xs ys : List X) → map kind ys ≡ map kind xs → length ys ≡ length xs
as_many kind xs ys e = sym (length-map ys kind) ∙ ap length e ∙ length-map xs kind

pub first_within : {X : Type 0} (worth : X → Worth) (xs : List X) (a b : Worth) → map worth xs ≡ a ∷ b ∷ [] → 0 < length xs
first_within worth xs a b e = (let two : length xs ≡ 2 = two_views worth xs a b e in omega (arith, two))

pub second_within : {X Y : Type 0} (kind : X → Y) (worth : X → Worth) (xs ys : List X) (a b : Worth) → map worth xs ≡ a ∷ b ∷ [] → map kind ys ≡ map kind xs → 1 < length ys
second_within kind worth xs ys a b e k = (let two : length xs ≡ 2 = two_views worth xs a b e in let same : length ys ≡ length xs = as_many kind xs ys k in omega (arith, two, same))

pub kind_at : {X : Type 0} (kind : X → Kind) (xs : List X) (n : ℕ) → n < length xs → (c : Kind) × (c ≡ get_or (map kind xs) n c)
kind_at kind xs n less = exists_at (map kind xs) n (subst (λ m. n < m) (sym (length-map xs kind)) less)

pub within_kinds : {X : Type 0} (kind : X → Kind) (xs : List X) (n : ℕ) → n < length xs → n < length (map kind xs)
within_kinds kind xs n less = subst (λ m. n < m) (sym (length-map xs kind)) less

pub first_there : (ws : List Worth) (a b : Worth) → ws ≡ a ∷ b ∷ [] → a ≡ get_or ws 0 a
first_there ws a b e = ap (λ zs. get_or zs 0 a) (sym e)

-- the values of the others stay
pub worths_back : (cs ds : List Kind) (ws vs : List Worth) (r : ℕ) (c : Kind) → ds ≡ cs → vs ≡ set ws r (identity_of c) → c ≡ get_or cs r c → AreWorths cs ws → AreWorths ds vs
worths_back cs ds ws vs r c k e is a = rw (k, e) (AreWorths-set cs ws r c (identity_of c) a is (identity_right c))

-- two reducers are back at their identities
pub both_back : (cs : List Kind) (ws vs us : List Worth) (a b : Worth) (c d : Kind) → length cs ≡ length ws → ws ≡ a ∷ b ∷ [] → c ≡ get_or cs 0 c → d ≡ get_or cs 1 d
    → vs ≡ set ws 0 (identity_of c) → us ≡ set vs 1 (identity_of d) → us ≡ identities cs
both_back [] ws vs us a b c d l e f g h k = (let none : 0 ≡ 2 = l ∙ ap length e in absurd (omega (arith, none)))
both_back (x ∷ []) ws vs us a b c d l e f g h k = (let one : 1 ≡ 2 = l ∙ ap length e in absurd (omega (arith, one)))
both_back (x ∷ y ∷ z ∷ cs) ws vs us a b c d l e f g h k = (let more : suc (suc (suc (length cs))) ≡ 2 = l ∙ ap length e in absurd (omega (arith, more)))
both_back (x ∷ y ∷ []) ws vs us a b c d l e f g h k =
    k ∙ ap (λ zs. set zs 1 (identity_of d)) (h ∙ ap (λ zs. set zs 0 (identity_of c)) e)
    ∙ ap (λ j. identity_of c ∷ identity_of j ∷ []) g ∙ ap (λ j. identity_of j ∷ identity_of y ∷ []) f

-- the second of two values is there still once the first has moved
pub second_there : (ws vs : List Worth) (a b w : Worth) → ws ≡ a ∷ b ∷ [] → vs ≡ set ws 0 w → b ≡ get_or vs 1 b
second_there ws vs a b w e h = ap (λ zs. get_or zs 1 b) (sym (h ∙ ap (λ zs. set zs 0 w) e))

-- ---- one reducer alone

pub alone_within : {X : Type 0} (worth : X → Worth) (xs : List X) (a : Worth) → map worth xs ≡ a ∷ [] → 0 < length xs
alone_within worth xs a e = (let one : length xs ≡ 1 = sym (length-map xs worth) ∙ ap length e in omega (arith, one))

pub alone_there : (ws : List Worth) (a : Worth) → ws ≡ a ∷ [] → a ≡ get_or ws 0 a
alone_there ws a e = ap (λ zs. get_or zs 0 a) (sym e)

-- it is back at its identity
pub alone_back : (cs : List Kind) (ws us : List Worth) (a : Worth) (c : Kind) → length cs ≡ length ws → ws ≡ a ∷ [] → c ≡ get_or cs 0 c
    → us ≡ set ws 0 (identity_of c) → us ≡ identities cs
alone_back [] ws us a c l e f h = (let none : 0 ≡ 1 = l ∙ ap length e in absurd (omega (arith, none)))
alone_back (x ∷ y ∷ cs) ws us a c l e f h = (let more : suc (suc (length cs)) ≡ 1 = l ∙ ap length e in absurd (omega (arith, more)))
alone_back (x ∷ []) ws us a c l e f h = h ∙ ap (λ zs. set zs 0 (identity_of c)) e ∙ ap (λ j. identity_of j ∷ []) f
