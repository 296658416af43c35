-- What one write of a view does to the layer.
use Rattle.std.specs.Prelude.{◌≡◌, ◌≢◌, ℕ, zero, suc, ◌<◌, List, [], ◌∷◌, ◌++◌, length, map, false, true, Bool, ◌||◌, nat_eq, not, All, refl, if◌then◌else◌, Some, Result, Ok, Err, OnOk, OnErr, IfOk, IfErr, is_err}
use Rattle.std.specs.List.{list_any, slice_get}
use Rattle.std.proofs.Common.{sym, ◌∙◌, ap, subst, arith, get_or, set}
use Rattle.std.proofs.Math.ListN.{length-map}
use Rattle.std.proofs.lemmas.Bool.Decides.{Decides-eqb}
use Rattle.std.proofs.Math.Seq.{map-set_same}
use Rattle.std.proofs.lemmas.List.{map-set, get_or-map, get_or-set_other}
use Rattle.std.proofs.lemmas.List.Elements.{All-head, All-tail, All-push, All-nil, All-cons, All-get_or}
use Rattle.std.proofs.lemmas.Grind.{common_steps}
use Rattle.hypermaps.specs.Layer.{used_also}
use Rattle.monoid_laws.specs.Worth.{Worth}
use Rattle.monoid_laws.specs.Kinds.{operate, operate_all, IsMonoid, identity_of, identities, AreWorths, IsWorth}
use Rattle.monoid_laws.specs.declared.Kind.{Kind}
use Rattle.monoid_laws.proofs.Laws.{operate_right}
use Rattle.monoid_laws.proofs.Rows.{AreWorths-set, AreWorths-at, operate_all_moved, AreWorths-identities, cons_same}
use Rattle.hypermaps.specs.Layer.{Layer, IsLayer}

-- an element as the list of what f makes of each shows it
pub at_map : {X Y : Type 0} (f : X → Y) (xs : List X) (i : ℕ) (x : X) (y : Y) → i < length xs → x ≡ get_or xs i x → y ≡ get_or (map f xs) i y → y ≡ f x
at_map f xs i x y h e g = g ∙ get_or-map f xs i x y h ∙ ap f (sym e)

pub is_at_map : {X Y : Type 0} (f : X → Y) (xs : List X) (i : ℕ) (x : X) → i < length xs → x ≡ get_or xs i x → f x ≡ get_or (map f xs) i (f x)
is_at_map f xs i x h e = ap f e ∙ sym (get_or-map f xs i x (f x) h)

same_not : {b : Bool} → b ≡ true → b ≡ false → ⊥
same_not p q = cc

eq_swap : (a b : ℕ) → nat_eq a b ≡ nat_eq b a
eq_swap a b = grind (arith, common_steps)

-- whether a number is among others, asked from either side
pub any_swap : (x : ℕ) (ys : List ℕ) → list_any (λ y. nat_eq y x) ys ≡ list_any (nat_eq x) ys
any_swap x [] = refl
any_swap x (y ∷ ys) = rw (eq_swap y x, any_swap x ys) refl

either_false : (a b b' c : Bool) → (a || b') ≡ false → (b' ≡ false → (b ≡ false) × (c ≡ false)) → ((a || b) ≡ false) × (c ≡ false)
either_false true b b' c h f = absurd (same_not refl h)
either_false false b b' c h f = f h

any_last : (q : ℕ → Bool) (xs : List ℕ) (x : ℕ) → list_any q (xs ++ x ∷ []) ≡ false → (list_any q xs ≡ false) × (q x ≡ false)
any_last q [] x h = (refl, grind (arith, common_steps))
any_last q (y ∷ ys) x h = either_false (q y) (list_any q ys) (list_any q (ys ++ x ∷ [])) (q x) h (any_last q ys x)

insert_cases : (b : Bool) (j i : ℕ) (used : List ℕ) → list_any (nat_eq i) used ≡ b → list_any (nat_eq j) (if b then used else used ++ i ∷ []) ≡ false
    → (list_any (nat_eq j) used ≡ false) × (j ≢ i)
insert_cases true j i used e h = (h, λ p. same_not (subst (λ k. list_any (nat_eq k) used ≡ true) (sym p) e) h)
insert_cases false j i used e h = (let k : (list_any (nat_eq j) used ≡ false) × (nat_eq j i ≡ false) = any_last (nat_eq j) used i h in (k.0, λ p. grind (arith, common_steps)))

below_insert : (b : Bool) (n i : ℕ) (used : List ℕ) → i < n → All (λ k. k < n) used → All (λ k. k < n) (if b then used else used ++ i ∷ [])
below_insert true n i used h a = a
below_insert false n i used h a = All-push (λ k. k < n) used i a h

pub IsLayer-update : (cs : List Kind) (ws : List Worth) (used : List ℕ) (i : ℕ) (c : Kind) (w : Worth) → IsLayer cs ws used
    → i < length cs → c ≡ get_or cs i c → IsWorth c w → IsLayer cs (set ws i w) (used_also used i)
IsLayer-update cs ws used i c w l h e f = record {
  right = AreWorths-set cs ws i c w l.right e f;
  shut = λ j d x g p q n. (let k : (list_any (nat_eq j) used ≡ false) × (j ≢ i) = insert_cases (list_any (nat_eq i) used) j i used refl n in
      l.shut j d x g p (q ∙ get_or-set_other ws i j w x (k.1)) (k.0));
  below = below_insert (list_any (nat_eq i) used) (length cs) i used h l.below;
}

pub IsLayer-open : (cs : List Kind) → IsLayer cs (identities cs) []
IsLayer-open cs = record {
  right = AreWorths-identities cs;
  shut = λ j d x g p q n. q ∙ get_or-map identity_of cs j d x g ∙ ap identity_of (sym p);
  below = All-nil _;
}

pub worths_at_identity : {X : Type 0} (kind : X → Kind) (worth : X → Worth) (xs : List X) → All (λ x. worth x ≡ identity_of (kind x)) xs → map worth xs ≡ identities (map kind xs)
worths_at_identity kind worth [] h = refl
worths_at_identity kind worth (x ∷ xs) h =
    cons_same _ _ _ _ (All-head (λ x. worth x ≡ identity_of (kind x)) x xs h) (worths_at_identity kind worth xs (All-tail (λ x. worth x ≡ identity_of (kind x)) x xs h))

pub no_items : (xs : List ℕ) → nat_eq (length xs) 0 ≡ true → xs ≡ []
no_items [] e = refl
no_items (x ∷ xs) e = (let none : suc (length xs) ≡ 0 = (Decides-eqb (suc (length xs)) 0).0 e in absurd (omega (arith, none)))

pub all_at_identity : {X : Type 0} (kind : X → Kind) (worth : X → Worth) (xs : List X) → map worth xs ≡ identities (map kind xs) → All (λ x. worth x ≡ identity_of (kind x)) xs
all_at_identity kind worth [] e = All-nil _
all_at_identity kind worth (x ∷ xs) e =
    let first : worth x ≡ identity_of (kind x) = cc in
    let others : map worth xs ≡ identities (map kind xs) = cc in
    All-cons (λ y. worth y ≡ identity_of (kind y)) x xs first (all_at_identity kind worth xs others)

module _ {X : Type 0} (kind : X → Kind) (worth : X → Worth) (xs : List X) (i : ℕ) (old new : X) (within : i < length xs) (is : old ≡ get_or xs i old) (same : kind new ≡ kind old) where
  pub kinds_written : map kind (set xs i new) ≡ map kind xs
  kinds_written = map-set_same kind xs i new old (same ∙ ap kind is)

  pub worths_kept : worth new ≡ worth old → map worth (set xs i new) ≡ map worth xs
  worths_kept e = map-set_same worth xs i new old (e ∙ ap worth is)

  pub IsLayer-written : (used : List ℕ) → IsLayer (map kind xs) (map worth xs) used → IsWorth (kind old) (worth new)
      → IsLayer (map kind (set xs i new)) (map worth (set xs i new)) (used_also used i)
  IsLayer-written used l r =
      rw (kinds_written, map-set worth xs i new)
      (IsLayer-update (map kind xs) (map worth xs) used i (kind old) (worth new) l (let e : length (map kind xs) ≡ length xs = length-map xs kind in omega arith)
      (is_at_map kind xs i old within is) r)

  pub IsWorth-old : (used : List ℕ) → IsLayer (map kind xs) (map worth xs) used → IsWorth (kind old) (worth old)
  IsWorth-old used l =
      AreWorths-at (map kind xs) (map worth xs) i (kind old) (worth old) l.right (let e : length (map kind xs) ≡ length xs = length-map xs kind in omega arith)
      (is_at_map kind xs i old within is) (is_at_map worth xs i old within is)

pub IsWorth-combined : {E : Type 0} (r : Result (Unit {0}) E) (k : Kind) (w v e : Worth) → OnOk r (v ≡ operate k w e) → OnOk r (IsWorth k e) → OnErr r (v ≡ w) → IsWorth k w → IsWorth k v
IsWorth-combined (Ok u) k w v e a b d h = subst (IsWorth k) (sym a) (operate_right k w e h b)
IsWorth-combined (Err u) k w v e a b d h = subst (IsWorth k) (sym d) h

pub OnErr-kept : {E : Type 0} (r : Result (Unit {0}) E) (P Q : Type 0) → (P → Q) → OnErr r P → OnErr r Q
OnErr-kept (Ok u) P Q f h = tt
OnErr-kept (Err u) P Q f h = f h

pub OnOk-kept : {E : Type 0} (r : Result (Unit {0}) E) (P Q : Type 0) → (P → Q) → OnOk r P → OnOk r Q
OnOk-kept (Ok u) P Q f h = f h
OnOk-kept (Err u) P Q f h = tt

pub was_ok : {A E : Type 0} (r : Result A E) (P : Type 0) → is_err r ≡ false → IfOk r (λ x. P) → P
was_ok (Ok x) P e h = h
was_ok (Err x) P e h = cc

pub IfErr-kept : {A E : Type 0} (r : Result A E) (P Q : E → Type 0) → ((e : E) → P e → Q e) → IfErr r P → IfErr r Q
IfErr-kept (Ok u) P Q f h = tt
IfErr-kept (Err e) P Q f h = f e h

pub layer_same : (cs ds : List Kind) (ws vs : List Worth) → cs ≡ ds → ws ≡ vs
    → ◌≡◌ {A = Layer} (record { kinds = cs; worths = ws }) (record { kinds = ds; worths = vs })
layer_same cs ds ws vs p q = cc

pub OnOk-always : {E : Type 0} (r : Result (Unit {0}) E) (P : Type 0) → P → OnOk r P
OnOk-always (Ok u) P h = h
OnOk-always (Err u) P h = tt

by_result : {E : Type 0} (r : Result (Unit {0}) E) (A B C D P : Type 0) → (A → B → P) → (C → D → P) → OnOk r A → OnOk r B → OnErr r C → OnErr r D → P
by_result (Ok u) A B C D P f g a b c d = f a b
by_result (Err u) A B C D P f g a b c d = g c d

not_true : (b : Bool) → not b ≡ true → b ≡ false
not_true true h = sym h
not_true false h = refl

-- One reducer's value moves from the right views to the left ones.
module _ {X : Type 0} (kind : X → Kind) (worth : X → Worth) (ls rs : List X) (i : ℕ) (lo ro : X) (used : List ℕ)
    (within : i < length rs) (kinds : map kind ls ≡ map kind rs) (is_l : lo ≡ get_or ls i lo) (is_r : ro ≡ get_or rs i ro)
    (layer : IsLayer (map kind ls) (map worth ls) used) (values : AreWorths (map kind rs) (map worth rs)) (monoids : All IsMonoid (map kind ls)) where
  within_map : i < length (map kind rs)
  within_map = let e : length (map kind rs) ≡ length rs = length-map rs kind in omega arith

  within_left_map : i < length (map kind ls)
  within_left_map = subst (λ (cs : List Kind). i < length cs) (sym kinds) within_map

  pub within_left : i < length ls
  within_left = let e : length (map kind ls) ≡ length ls = length-map ls kind in let f : i < length (map kind ls) = within_left_map in omega arith

  pub fold-same_kind : kind lo ≡ kind ro
  fold-same_kind =
      at_map kind rs i ro (kind lo) within is_r (subst (λ (cs : List Kind). kind lo ≡ get_or cs i (kind lo)) kinds (is_at_map kind ls i lo within_left is_l))

  pub fold-right_value : IsWorth (kind ro) (worth ro)
  fold-right_value = AreWorths-at (map kind rs) (map worth rs) i (kind ro) (worth ro) values within_map (is_at_map kind rs i ro within is_r) (is_at_map worth rs i ro within is_r)

  pub fold-monoid : IsMonoid (kind lo)
  fold-monoid = subst IsMonoid (sym (is_at_map kind ls i lo within_left is_l)) (All-get_or IsMonoid (map kind ls) i (kind lo) within_left_map monoids)

  pub fold-shut : (b : Bool) → b ≡ not (list_any (nat_eq i) used) → b ≡ true → worth lo ≡ identity_of (kind lo)
  fold-shut b e h =
      layer.shut i (kind lo) (worth lo) within_left_map (is_at_map kind ls i lo within_left is_l) (is_at_map worth ls i lo within_left is_l) (not_true (list_any (nat_eq i) used) (sym e ∙ h))

  module _ {E : Type 0} (r : Result (Unit {0}) E) (ln rn : X) (left_kind : kind ln ≡ kind lo) (right_kind : kind rn ≡ kind ro)
      (moved : OnOk r (worth ln ≡ operate (kind lo) (worth lo) (worth ro))) (emptied : OnOk r (worth rn ≡ identity_of (kind lo)))
      (left_kept : OnErr r (worth ln ≡ worth lo)) (right_kept : OnErr r (worth rn ≡ worth ro)) where
    left_old : IsWorth (kind lo) (worth lo)
    left_old = IsWorth-old kind worth ls i lo ln within_left is_l left_kind used layer

    pub fold-left_layer : IsLayer (map kind (set ls i ln)) (map worth (set ls i ln)) (used_also used i)
    fold-left_layer =
        IsLayer-written kind worth ls i lo ln within_left is_l left_kind used layer
        (IsWorth-combined r (kind lo) (worth lo) (worth ln) (worth ro) moved (OnOk-always r (IsWorth (kind lo) (worth ro)) (subst (λ c. IsWorth c (worth ro)) (sym fold-same_kind) fold-right_value)) left_kept left_old)

    pub fold-left_kinds : map kind (set ls i ln) ≡ map kind ls
    fold-left_kinds = kinds_written kind worth ls i lo ln within_left is_l left_kind

    pub fold-right_kinds : map kind (set rs i rn) ≡ map kind rs
    fold-right_kinds = kinds_written kind worth rs i ro rn within is_r right_kind

    pub fold-moved : (c : Kind) → c ≡ get_or (map kind rs) i c → OnOk r (map worth (set rs i rn) ≡ set (map worth rs) i (identity_of c))
    fold-moved c e =
        OnOk-kept r _ _ (λ d. map-set worth rs i rn ∙ ap (set (map worth rs) i) (d ∙ ap identity_of (fold-same_kind ∙ sym (at_map kind rs i ro c within is_r e)))) emptied

    pub fold-kept : OnErr r (map worth (set rs i rn) ≡ map worth rs)
    fold-kept = OnErr-kept r _ _ (λ d. worths_kept kind worth rs i ro rn within is_r right_kind d) right_kept

    product-ok : worth ln ≡ operate (kind lo) (worth lo) (worth ro) → worth rn ≡ identity_of (kind lo)
        → operate_all (map kind (set ls i ln)) (map worth (set ls i ln)) (map worth (set rs i rn)) ≡ operate_all (map kind ls) (map worth ls) (map worth rs)
    product-ok d e =
        rw (fold-left_kinds, map-set worth ls i ln, map-set worth rs i rn, d, e)
        (operate_all_moved (map kind ls) (map worth ls) (map worth rs) i (kind lo) (worth lo) (worth ro) monoids layer.right
        (subst (λ cs. AreWorths cs (map worth rs)) (sym kinds) values) within_left_map
        (is_at_map kind ls i lo within_left is_l) (is_at_map worth ls i lo within_left is_l) (is_at_map worth rs i ro within is_r))

    product-err : worth ln ≡ worth lo → worth rn ≡ worth ro
        → operate_all (map kind (set ls i ln)) (map worth (set ls i ln)) (map worth (set rs i rn)) ≡ operate_all (map kind ls) (map worth ls) (map worth rs)
    product-err d e =
        rw (fold-left_kinds, worths_kept kind worth ls i lo ln within_left is_l left_kind d, worths_kept kind worth rs i ro rn within is_r right_kind e) refl

    pub fold-product : operate_all (map kind (set ls i ln)) (map worth (set ls i ln)) (map worth (set rs i rn)) ≡ operate_all (map kind ls) (map worth ls) (map worth rs)
    fold-product = by_result r _ _ _ _ _ product-ok product-err moved emptied left_kept right_kept

-- what stands in a list is among it
pub any_at : (xs : List ℕ) (i m n : ℕ) → slice_get xs i ≡ Some m → nat_eq m n ≡ true → list_any (nat_eq n) xs ≡ true
any_at [] i m n e h = cc
any_at (x ∷ xs) zero m n e h =
    let same : x ≡ m = cc in
    ap (λ b. b || list_any (nat_eq n) xs) (eq_swap n x ∙ ap (λ y. nat_eq y n) same ∙ h)
any_at (x ∷ xs) (suc i) m n e h = either (nat_eq n x) (any_at xs i m n e h)
  where
    either : (b : Bool) {c : Bool} → c ≡ true → (b || c) ≡ true
    either true k = refl
    either false k = k
