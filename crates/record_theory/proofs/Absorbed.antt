-- The values of a record that are combined with those of all reducers one after another.
use Rattle.std.proofs.Common.{◌≡◌, ◌≢◌, ℕ, zero, suc, ◌+◌, ◌<◌, ◌≤◌, List, [], ◌∷◌, All, length, map, drop, slice_get, refl, sym, ap, ◌∙◌, subst, arith, get_or, set}
use Rattle.std.proofs.lemmas.List.{get_or-set_other, set-set, drop_more, drop_all}
use Rattle.monoid_laws.specs.declared.Kind.{Kind}
use Rattle.monoid_laws.specs.Worth.{Worth}
use Rattle.monoid_laws.specs.declared.Val.{Val}
use Rattle.monoid_laws.specs.Kinds.{meaning, operate, operate_all, identity_of, identities, AreWorths, IsWorth, IsMonoid}
use Rattle.monoid_laws.proofs.Laws.{operate_right}
use Rattle.monoid_laws.proofs.Rows.{operate_all_moved, operate_all_identities, AreWorths-set, AreWorths-at, AreWorths-identities}
use Rattle.record_theory.specs.Record.{touched}
use Rattle.record_theory.specs.Named.{IsValueAt, AreValuesFrom, filled}

-- one value for each reducer
pub each : (cs : List Kind) (ws : List Worth) → AreWorths cs ws → length cs ≡ length ws
each [] [] h = refl
each [] (w ∷ ws) h = elim h [ ]
each (c ∷ cs) [] h = elim h [ ]
each (c ∷ cs) (w ∷ ws) h = let e : length cs ≡ length ws = each cs ws h.1 in cc

-- ---- where the values are

pub values_lower : (i j : ℕ) (ks : List Kind) (es : List (ℕ × Worth)) → i ≤ j → AreValuesFrom j ks es → AreValuesFrom i ks es
values_lower i j ks [] l h = tt
values_lower i j ks (e ∷ es) l h = let b : j ≤ e.0 = h.0 in (omega arith, h.1, h.2)

pub value_within : (ks : List Kind) (i : ℕ) (w : Worth) → IsValueAt (slice_get ks i) w → i < length ks
value_within [] i w h = absurd h
value_within (k ∷ ks) zero w h = omega arith
value_within (k ∷ ks) (suc i) w h = let l : i < length ks = value_within ks i w h in omega arith

pub value_at_kind : (ks : List Kind) (i : ℕ) (k : Kind) (w : Worth) → IsValueAt (slice_get ks i) w → k ≡ get_or ks i k → IsWorth k w
value_at_kind [] i k w h e = absurd h
value_at_kind (c ∷ ks) zero k w h e = let p : k ≡ c = e in subst (λ d. IsWorth d w) (sym p) h
value_at_kind (c ∷ ks) (suc i) k w h e = value_at_kind ks i k w h e

-- ---- values put in past a place

set_set_other : {A : Type 0} (xs : List A) (i j : ℕ) (x y : A) → i ≢ j → set (set xs i x) j y ≡ set (set xs j y) i x
set_set_other [] i j x y n = refl
set_set_other (z ∷ xs) zero zero x y n = absurd (n refl)
set_set_other (z ∷ xs) zero (suc j) x y n = refl
set_set_other (z ∷ xs) (suc i) zero x y n = refl
set_set_other (z ∷ xs) (suc i) (suc j) x y n = ap (λ zs. z ∷ zs) (set_set_other xs i j x y (λ e. n (ap suc e)))

set_as_is : {A : Type 0} (xs : List A) (i : ℕ) (x : A) → x ≡ get_or xs i x → set xs i x ≡ xs
set_as_is [] i x e = refl
set_as_is (z ∷ xs) zero x e = let p : x ≡ z = e in ap (λ w. w ∷ xs) p
set_as_is (z ∷ xs) (suc i) x e = ap (λ zs. z ∷ zs) (set_as_is xs i x e)

filled_set : (ks : List Kind) (acc : List Worth) (i : ℕ) (w : Worth) (es : List (ℕ × Worth)) → AreValuesFrom (suc i) ks es
    → filled (set acc i w) es ≡ set (filled acc es) i w
filled_set ks acc i w [] h = refl
filled_set ks acc i w (e ∷ es) h =
    let b : suc i ≤ e.0 = h.0 in
    ap (λ xs. filled xs es) (set_set_other acc i e.0 w e.1 (λ p. omega arith))
    ∙ filled_set ks (set acc e.0 e.1) i w es (values_lower (suc i) (suc e.0) ks es (omega arith) h.2)

filled_at : (ks : List Kind) (acc : List Worth) (i : ℕ) (x : Worth) (es : List (ℕ × Worth)) → AreValuesFrom (suc i) ks es → x ≡ get_or acc i x
    → x ≡ get_or (filled acc es) i x
filled_at ks acc i x [] h e = e
filled_at ks acc i x (d ∷ es) h e =
    let b : suc i ≤ d.0 = h.0 in
    filled_at ks (set acc d.0 d.1) i x es (values_lower (suc i) (suc d.0) ks es (omega arith) h.2)
    (e ∙ sym (get_or-set_other acc d.0 i d.1 x (λ p. omega arith)))

-- what stands at a place
pub there : {A : Type 0} (xs : List A) (i : ℕ) → i < length xs → (x : A) × (x ≡ get_or xs i x)
there [] i l = absurd (omega arith)
there (x ∷ xs) zero l = (x, refl)
there (x ∷ xs) (suc i) l = there xs i (omega arith)

pub same_at : {A : Type 0} (xs : List A) (i : ℕ) (x y : A) → i < length xs → x ≡ get_or xs i x → y ≡ get_or xs i y → x ≡ y
same_at [] i x y l e f = absurd (omega arith)
same_at (z ∷ xs) zero x y l e f = let p : x ≡ z = e in let q : y ≡ z = f in p ∙ sym q
same_at (z ∷ xs) (suc i) x y l e f = same_at xs i x y (omega arith) e f

pub filled_right : (i : ℕ) (ks : List Kind) (acc : List Worth) (es : List (ℕ × Worth)) → AreWorths ks acc → AreValuesFrom i ks es → AreWorths ks (filled acc es)
filled_right i ks acc [] a h = a
filled_right i ks acc (e ∷ es) a h =
    let k : (c : Kind) × (c ≡ get_or ks e.0 c) = there ks e.0 (value_within ks e.0 e.1 h.1) in
    filled_right (suc e.0) ks (set acc e.0 e.1) es (AreWorths-set ks acc e.0 k.0 e.1 a k.1 (value_at_kind ks e.0 k.0 e.1 h.1 k.1)) h.2

identity_at : (ks : List Kind) (i : ℕ) (k : Kind) → i < length ks → k ≡ get_or ks i k → identity_of k ≡ get_or (identities ks) i (identity_of k)
identity_at [] i k l e = absurd (omega arith)
identity_at (c ∷ ks) zero k l e = let p : k ≡ c = e in ap identity_of p
identity_at (c ∷ ks) (suc i) k l e = identity_at ks i k (omega arith) e

set_at : {A : Type 0} (xs : List A) (i : ℕ) (x : A) → i < length xs → x ≡ get_or (set xs i x) i x
set_at [] i x l = absurd (omega arith)
set_at (z ∷ xs) zero x l = refl
set_at (z ∷ xs) (suc i) x l = set_at xs i x (omega arith)

-- ---- one value after another

module _ (ks : List Kind) (ws : List Worth) (e : ℕ × Worth) (es : List (ℕ × Worth)) (monoids : All IsMonoid ks) (are : AreWorths ks ws) (values : AreValuesFrom 0 ks (e ∷ es)) where
  abbrev rest : List Worth
  rest = filled (identities ks) es

  rest_right : AreWorths ks rest
  rest_right = filled_right (suc e.0) ks (identities ks) es (AreWorths-identities ks) values.2

  pub next_within : e.0 < length ks
  next_within = value_within ks e.0 e.1 values.1

  pub next_of_kind : (k : Kind) → k ≡ get_or ks e.0 k → IsWorth k e.1
  next_of_kind k at = value_at_kind ks e.0 k e.1 values.1 at

  module _ (k : Kind) (x : Worth) (at_k : k ≡ get_or ks e.0 k) (at_x : x ≡ get_or ws e.0 x) where
    pub next_worths : AreWorths ks (set ws e.0 (operate k x e.1))
    next_worths = AreWorths-set ks ws e.0 k (operate k x e.1) are at_k
        (operate_right k x e.1 (AreWorths-at ks ws e.0 k x are next_within at_k at_x) (next_of_kind k at_k))

    rest_set : AreWorths ks (set rest e.0 e.1)
    rest_set = AreWorths-set ks rest e.0 k e.1 rest_right at_k (next_of_kind k at_k)

    emptied : set (set rest e.0 e.1) e.0 (identity_of k) ≡ rest
    emptied = set-set rest e.0 e.1 (identity_of k)
        ∙ set_as_is rest e.0 (identity_of k) (filled_at ks (identities ks) e.0 (identity_of k) es values.2 (identity_at ks e.0 k next_within at_k))

    within_rest : e.0 < length rest
    within_rest = subst (λ n. e.0 < n) (each ks rest rest_right) next_within

    pub next_absorbed : operate_all ks (set ws e.0 (operate k x e.1)) (filled (identities ks) es) ≡ operate_all ks ws (filled (identities ks) (e ∷ es))
    next_absorbed =
        ap (operate_all ks (set ws e.0 (operate k x e.1))) (sym emptied)
        ∙ operate_all_moved ks ws (set rest e.0 e.1) e.0 k x e.1 monoids are rest_set next_within at_k at_x (set_at rest e.0 e.1 within_rest)
        ∙ ap (operate_all ks ws) (sym (filled_set ks (identities ks) e.0 e.1 es values.2))

drop_touched : (vs : List (ℕ × Val)) (i : ℕ) (e : ℕ × Val) → i < length vs → e ≡ get_or vs i e → map touched (drop i vs) ≡ touched e ∷ map touched (drop (i + 1) vs)
drop_touched vs i e l at = ap (map touched) (drop_more vs i e l ∙ ap (λ d. d ∷ drop (i + 1) vs) (sym at))

-- one turn of the loop over the values
module _ (ks : List Kind) (vs : List (ℕ × Val)) (i : ℕ) (e : ℕ × Val) (within : i < length vs) (at : e ≡ get_or vs i e) (values : AreValuesFrom 0 ks (map touched (drop i vs))) where
  here : AreValuesFrom 0 ks (touched e ∷ map touched (drop (i + 1) vs))
  here = subst (AreValuesFrom 0 ks) (drop_touched vs i e within at) values

  pub turn_within : e.0 < length ks
  turn_within = value_within ks e.0 (meaning e.1) here.1

  pub turn_of_kind : (k : Kind) → k ≡ get_or ks e.0 k → IsWorth k (meaning e.1)
  turn_of_kind k p = value_at_kind ks e.0 k (meaning e.1) here.1 p

  pub turn_values : AreValuesFrom 0 ks (map touched (drop (i + 1) vs))
  turn_values = values_lower 0 (suc e.0) ks (map touched (drop (i + 1) vs)) (omega arith) here.2

  module _ (ws new : List Worth) (monoids : All IsMonoid ks) (are : AreWorths ks ws) (absorbed : (k : Kind) (x : Worth) → k ≡ get_or ks e.0 k → x ≡ get_or ws e.0 x → new ≡ set ws e.0 (operate k x (meaning e.1))) where
    the_kind : (k : Kind) × (k ≡ get_or ks e.0 k)
    the_kind = there ks e.0 turn_within

    the_worth : (x : Worth) × (x ≡ get_or ws e.0 x)
    the_worth = there ws e.0 (subst (λ n. e.0 < n) (each ks ws are) turn_within)

    new_is : new ≡ set ws e.0 (operate the_kind.0 the_worth.0 (meaning e.1))
    new_is = absorbed the_kind.0 the_worth.0 the_kind.1 the_worth.1

    pub turn_worths : AreWorths ks new
    turn_worths = subst (AreWorths ks) (sym new_is)
        (next_worths ks ws (touched e) (map touched (drop (i + 1) vs)) monoids are here the_kind.0 the_worth.0 the_kind.1 the_worth.1)

    pub turn_absorbed : (total : List Worth) → operate_all ks ws (filled (identities ks) (map touched (drop i vs))) ≡ total
        → operate_all ks new (filled (identities ks) (map touched (drop (i + 1) vs))) ≡ total
    turn_absorbed total so_far =
        ap (λ zs. operate_all ks zs (filled (identities ks) (map touched (drop (i + 1) vs)))) new_is
        ∙ next_absorbed ks ws (touched e) (map touched (drop (i + 1) vs)) monoids are here the_kind.0 the_worth.0 the_kind.1 the_worth.1
        ∙ ap (λ es. operate_all ks ws (filled (identities ks) es)) (sym (drop_touched vs i e within at))
        ∙ so_far

-- all values are in
pub turns_over : (ks : List Kind) (ws total : List Worth) (vs : List (ℕ × Val)) (i : ℕ) → All IsMonoid ks → AreWorths ks ws → length vs ≤ i
    → operate_all ks ws (filled (identities ks) (map touched (drop i vs))) ≡ total → ws ≡ total
turns_over ks ws total vs i monoids are l so_far =
    sym (operate_all_identities ks ws monoids are) ∙ ap (λ es. operate_all ks ws (filled (identities ks) (map touched es))) (sym (drop_all i vs l)) ∙ so_far
