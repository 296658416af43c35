-- Amounts by key form a monoid: to add at two keys in either order gives the same.
use Rattle.std.specs.Prelude.{◌≡◌, ℕ, ◌⊎◌, ◌≤◌, ◌++◌, ℤ, ◌+ℤ◌, ◌<ℤ◌, ◌≤ℤ◌, int_lt, true, false, List, [], ◌∷◌, ◌++◌, zero, suc, ◌<◌, take, drop, length, refl}
use Rattle.std.proofs.Common.{sym, ◌∙◌, ap, subst, arith, inl, inr, get_or, set, drop-cons, append_assoc, append-nil}
use Rattle.std.proofs.lemmas.Int.{ints, by_lt_z}
use Rattle.monoid_laws.specs.Kinds.{wrap, add_at, merge, AreAbove, IsRising}
use Rattle.monoid_laws.proofs.Numbers.{add_assoc}

lt_true : (a b : ℤ) → a <ℤ b → int_lt a b ≡ true
lt_true a b h = grind (arith, ints)

lt_false : (a b : ℤ) → b <ℤ a → int_lt a b ≡ false
lt_false a b h = grind (arith, ints)

lt_self : (a : ℤ) → int_lt a a ≡ false
lt_self a = grind (arith, ints)

pub lt_holds : (a b : ℤ) → int_lt a b ≡ true → a <ℤ b
lt_holds a b h = grind (arith, ints)

pub lt_fails : (a b : ℤ) → int_lt a b ≡ false → b ≤ℤ a
lt_fails a b h = grind (arith, ints)

pub lt_or_same : (a b : ℤ) → a ≤ℤ b → ¬ (b ≡ a) → a <ℤ b
lt_or_same a b h n = by_lt_z a b (λ g. g) (λ g. absurd (n (omega (arith, ints))))

pub le_both : (a b : ℤ) → a ≤ℤ b → b ≤ℤ a → a ≡ b
le_both a b h g = omega (arith, ints)

data Compared (a b : ℤ) : Type 0 where
  below : a <ℤ b → Compared a b
  same : a ≡ b → Compared a b
  above : b <ℤ a → Compared a b

compare : (a b : ℤ) → Compared a b
compare a b = by_lt_z a b (λ h. below h) (λ h. by_lt_z b a (λ g. above g) (λ g. same (omega (arith, ints))))

add_below : (k v : ℤ) (e : ℤ × ℤ) (es : List (ℤ × ℤ)) → k <ℤ e.0 → add_at k v (e ∷ es) ≡ (k, v) ∷ (e ∷ es)
add_below k v e es h = rw (lt_true k (e.0) h) refl

add_above : (k v : ℤ) (e : ℤ × ℤ) (es : List (ℤ × ℤ)) → e.0 <ℤ k → add_at k v (e ∷ es) ≡ e ∷ add_at k v es
add_above k v e es h = rw (lt_false k (e.0) h, lt_true (e.0) k h) refl

add_same : (k v w : ℤ) (es : List (ℤ × ℤ)) → add_at k v ((k, w) ∷ es) ≡ (k, wrap (v +ℤ w)) ∷ es
add_same k v w es = rw (lt_self k) refl

-- to add twice at one key is to add the sum
add_twice : (k v w : ℤ) (es : List (ℤ × ℤ)) → add_at k v (add_at k w es) ≡ add_at k (wrap (v +ℤ w)) es
add_twice k v w [] = add_same k v w []
add_twice k v w (e ∷ es) = elim (compare k (e.0)) [
  | below h ↦ ap (add_at k v) (add_below k w e es h) ∙ add_same k v w (e ∷ es) ∙ sym (add_below k (wrap (v +ℤ w)) e es h)
  | same h ↦ subst (λ (j : ℤ). add_at j v (add_at j w (e ∷ es)) ≡ add_at j (wrap (v +ℤ w)) (e ∷ es)) (sym h)
      (ap (add_at (e.0) v) (add_same (e.0) w (e.1) es) ∙ add_same (e.0) v (wrap (w +ℤ e.1)) es
      ∙ ap (λ n. (e.0, n) ∷ es) (sym (add_assoc v w (e.1))) ∙ sym (add_same (e.0) (wrap (v +ℤ w)) (e.1) es))
  | above h ↦ ap (add_at k v) (add_above k w e es h) ∙ add_above k v e (add_at k w es) h ∙ ap (λ r. e ∷ r) (add_twice k v w es) ∙ sym (add_above k (wrap (v +ℤ w)) e es h)
]

-- below all that stands there, an amount goes first
add_first : (j k v w : ℤ) (e : ℤ × ℤ) (es : List (ℤ × ℤ)) → j <ℤ k → j <ℤ e.0 → add_at j w (add_at k v (e ∷ es)) ≡ (j, w) ∷ add_at k v (e ∷ es)
add_first j k v w e es h a = elim (compare k (e.0)) [
  | below b ↦ ap (add_at j w) (add_below k v e es b) ∙ add_below j w (k, v) (e ∷ es) h ∙ ap (λ r. (j, w) ∷ r) (sym (add_below k v e es b))
  | same b ↦ subst (λ (i : ℤ). add_at j w (add_at i v (e ∷ es)) ≡ (j, w) ∷ add_at i v (e ∷ es)) (sym b)
      (ap (add_at j w) (add_same (e.0) v (e.1) es) ∙ add_below j w (e.0, wrap (v +ℤ e.1)) es a ∙ ap (λ r. (j, w) ∷ r) (sym (add_same (e.0) v (e.1) es)))
  | above b ↦ ap (add_at j w) (add_above k v e es b) ∙ add_below j w e (add_at k v es) a ∙ ap (λ r. (j, w) ∷ r) (sym (add_above k v e es b))
]

-- to add at two keys in either order gives the same; j is the lesser
add_swap_first : (j k v w : ℤ) (es : List (ℤ × ℤ)) → j <ℤ k → add_at j w (add_at k v es) ≡ add_at k v (add_at j w es)
add_swap_first j k v w [] h = add_below j w (k, v) [] h ∙ sym (add_above k v (j, w) [] h)
add_swap_first j k v w (e ∷ es) h = elim (compare j (e.0)) [
  | below a ↦ add_first j k v w e es h a ∙ sym (ap (add_at k v) (add_below j w e es a) ∙ add_above k v (j, w) (e ∷ es) h)
  | same a ↦ (let b : e.0 <ℤ k = subst (λ (i : ℤ). i <ℤ k) a h in
      subst (λ (i : ℤ). add_at i w (add_at k v (e ∷ es)) ≡ add_at k v (add_at i w (e ∷ es))) (sym a)
      (ap (add_at (e.0) w) (add_above k v e es b) ∙ add_same (e.0) w (e.1) (add_at k v es)
      ∙ sym (ap (add_at k v) (add_same (e.0) w (e.1) es) ∙ add_above k v (e.0, wrap (w +ℤ e.1)) es b)))
  | above a ↦ (let b : e.0 <ℤ k = omega (arith, ints) in
      ap (add_at j w) (add_above k v e es b) ∙ add_above j w e (add_at k v es) a ∙ ap (λ r. e ∷ r) (add_swap_first j k v w es h)
      ∙ sym (ap (add_at k v) (add_above j w e es a) ∙ add_above k v e (add_at j w es) b))
]

-- an amount that is added before a merge may be added after it
merge_add : (k v : ℤ) (es zs : List (ℤ × ℤ)) → merge (add_at k v es) zs ≡ add_at k v (merge es zs)
merge_add k v [] zs = refl
merge_add k v (e ∷ es) zs = elim (compare k (e.0)) [
  | below h ↦ ap (λ r. merge r zs) (add_below k v e es h)
  | same h ↦ subst (λ (i : ℤ). merge (add_at i v (e ∷ es)) zs ≡ add_at i v (merge (e ∷ es) zs)) (sym h)
      (ap (λ r. merge r zs) (add_same (e.0) v (e.1) es) ∙ sym (add_twice (e.0) v (e.1) (merge es zs)))
  | above h ↦ ap (λ r. merge r zs) (add_above k v e es h) ∙ ap (add_at (e.0) (e.1)) (merge_add k v es zs) ∙ add_swap_first (e.0) k v (e.1) (merge es zs) h
]

pub merge_assoc : (xs ys zs : List (ℤ × ℤ)) → merge (merge xs ys) zs ≡ merge xs (merge ys zs)
merge_assoc [] ys zs = refl
merge_assoc (x ∷ xs) ys zs = merge_add (x.0) (x.1) (merge xs ys) zs ∙ ap (add_at (x.0) (x.1)) (merge_assoc xs ys zs)

add_at_front : (x : ℤ × ℤ) (xs : List (ℤ × ℤ)) → AreAbove (x.0) xs → add_at (x.0) (x.1) xs ≡ x ∷ xs
add_at_front x [] h = refl
add_at_front x (e ∷ es) h = add_below (x.0) (x.1) e es (h.0)

pub merge_nil : (xs : List (ℤ × ℤ)) → IsRising xs → merge xs [] ≡ xs
merge_nil [] h = refl
merge_nil (x ∷ xs) h = ap (add_at (x.0) (x.1)) (merge_nil xs (h.1)) ∙ add_at_front x xs (h.0)

-- what is added keeps the keys rising
AreAbove-add : (b k v : ℤ) (es : List (ℤ × ℤ)) → b <ℤ k → AreAbove b es → AreAbove b (add_at k v es)
AreAbove-add b k v [] h a = (h, tt)
AreAbove-add b k v (e ∷ es) h a = elim (compare k (e.0)) [
  | below g ↦ subst (AreAbove b) (sym (add_below k v e es g)) (h, a)
  | same g ↦ subst (λ (i : ℤ). AreAbove b (add_at i v (e ∷ es))) (sym g) (subst (AreAbove b) (sym (add_same (e.0) v (e.1) es)) a)
  | above g ↦ subst (AreAbove b) (sym (add_above k v e es g)) (a.0, AreAbove-add b k v es h (a.1))
]

AreAbove-lower : (b c : ℤ) (es : List (ℤ × ℤ)) → b <ℤ c → AreAbove c es → AreAbove b es
AreAbove-lower b c [] h a = tt
AreAbove-lower b c (e ∷ es) h a = (let x : c <ℤ e.0 = a.0 in omega (arith, ints), AreAbove-lower b c es h (a.1))

IsRising-add : (k v : ℤ) (es : List (ℤ × ℤ)) → IsRising es → IsRising (add_at k v es)
IsRising-add k v [] h = (tt, tt)
IsRising-add k v (e ∷ es) h = elim (compare k (e.0)) [
  | below g ↦ subst IsRising (sym (add_below k v e es g)) ((g, AreAbove-lower k (e.0) es g (h.0)), h)
  | same g ↦ subst (λ (i : ℤ). IsRising (add_at i v (e ∷ es))) (sym g) (subst IsRising (sym (add_same (e.0) v (e.1) es)) h)
  | above g ↦ subst IsRising (sym (add_above k v e es g)) (AreAbove-add (e.0) k v es g (h.0), IsRising-add k v es (h.1))
]

pub IsRising-merge : (xs ys : List (ℤ × ℤ)) → IsRising ys → IsRising (merge xs ys)
IsRising-merge [] ys h = h
IsRising-merge (x ∷ xs) ys h = IsRising-add (x.0) (x.1) (merge xs ys) (IsRising-merge xs ys h)

set_split : (xs : List (ℤ × ℤ)) (i : ℕ) (y : ℤ × ℤ) → i < length xs → set xs i y ≡ take i xs ++ y ∷ drop (suc i) xs
set_split [] i y h = absurd (omega arith)
set_split (x ∷ xs) zero y h = refl
set_split (x ∷ xs) (suc i) y h = ap (λ r. x ∷ r) (set_split xs i y (omega arith))

-- the amount at a key that is there is replaced by the sum
pub add_at_found : (xs : List (ℤ × ℤ)) (i : ℕ) (k v s : ℤ) (e : ℤ × ℤ) → i < length xs → e ≡ get_or xs i e → k ≡ e.0 → s ≡ wrap (v +ℤ e.1)
    → add_at k v xs ≡ take i xs ++ add_at k v (drop i xs) → set xs i (k, s) ≡ add_at k v xs
add_at_found xs i k v s e h is found sum passed =
    let d : drop i xs ≡ e ∷ drop (suc i) xs = drop-cons xs i e h ∙ ap (λ x. x ∷ drop (suc i) xs) (sym is) in
    let a : add_at k v (e ∷ drop (suc i) xs) ≡ (k, s) ∷ drop (suc i) xs =
    subst (λ (j : ℤ). add_at j v (e ∷ drop (suc i) xs) ≡ (j, s) ∷ drop (suc i) xs) (sym found) (add_same (e.0) v (e.1) (drop (suc i) xs) ∙ ap (λ n. (e.0, n) ∷ drop (suc i) xs) (sym sum)) in
    set_split xs i (k, s) h ∙ sym (passed ∙ ap (λ r. take i xs ++ r) (ap (add_at k v) d ∙ a))

-- ---- an amount at its place
AreAbove-at : (k : ℤ) (es : List (ℤ × ℤ)) (i : ℕ) (e : ℤ × ℤ) → AreAbove k es → i < length es → e ≡ get_or es i e → k <ℤ e.0
AreAbove-at k [] i e h g is = absurd (omega arith)
AreAbove-at k (x ∷ es) zero e h g is = subst (λ (y : ℤ × ℤ). k <ℤ y.0) (sym is) (h.0)
AreAbove-at k (x ∷ es) (suc i) e h g is = AreAbove-at k es i e (h.1) (omega arith) is

lt_trans : (a b c : ℤ) → a <ℤ b → b <ℤ c → a <ℤ c
lt_trans a b c h g = omega (arith, ints)

-- a key above the i-th goes behind it
pub add_at_past : (k v : ℤ) (es : List (ℤ × ℤ)) (i j : ℕ) (e : ℤ × ℤ) → IsRising es → i < length es → j ≡ suc i → e ≡ get_or es i e → e.0 <ℤ k
    → add_at k v es ≡ take j es ++ add_at k v (drop j es)
add_at_past k v [] i j e r h s is b = absurd (omega arith)
add_at_past k v (x ∷ es) zero j e r h s is b =
    rw s (add_above k v x es (subst (λ (y : ℤ × ℤ). y.0 <ℤ k) is b))
add_at_past k v (x ∷ es) (suc i) j e r h s is b =
    rw s (add_above k v x es (lt_trans (x.0) (e.0) k (AreAbove-at (x.0) es i e (r.0) (omega arith) is) b)
    ∙ ap (λ l. x ∷ l) (add_at_past k v es i (suc i) e (r.1) (omega arith) refl is b))

add_in_front : (k v : ℤ) (xs : List (ℤ × ℤ)) → ((e : ℤ × ℤ) (es : List (ℤ × ℤ)) → xs ≡ e ∷ es → k <ℤ e.0) → add_at k v xs ≡ (k, v) ∷ xs
add_in_front k v [] h = refl
add_in_front k v (e ∷ es) h = add_below k v e es (h e es refl)

within : (xs : List (ℤ × ℤ)) (i : ℕ) (e : ℤ × ℤ) (es : List (ℤ × ℤ)) → drop i xs ≡ e ∷ es → i < length xs
within [] zero e es h = cc
within [] (suc i) e es h = cc
within (x ∷ xs) zero e es h = omega arith
within (x ∷ xs) (suc i) e es h = (let w : i < length xs = within xs i e es h in omega arith)

first : (xs : List (ℤ × ℤ)) (i : ℕ) (e : ℤ × ℤ) (es : List (ℤ × ℤ)) → drop i xs ≡ e ∷ es → e ≡ get_or xs i e
first [] zero e es h = cc
first [] (suc i) e es h = cc
first (x ∷ xs) zero e es h = cc
first (x ∷ xs) (suc i) e es h = first xs i e es h

-- a new key goes between
pub add_at_new : (xs : List (ℤ × ℤ)) (i : ℕ) (k v : ℤ) → ((e : ℤ × ℤ) → i < length xs → e ≡ get_or xs i e → k <ℤ e.0)
    → add_at k v xs ≡ take i xs ++ add_at k v (drop i xs) → take i xs ++ (k, v) ∷ drop i xs ≡ add_at k v xs
add_at_new xs i k v higher passed =
    ap (λ r. take i xs ++ r) (sym (add_in_front k v (drop i xs) (λ e es is. higher e (within xs i e es is) (first xs i e es is)))) ∙ sym passed

-- ---- two rising lists, merged from the front
AreAbove-merge : (k : ℤ) (xs ys : List (ℤ × ℤ)) → AreAbove k xs → AreAbove k ys → AreAbove k (merge xs ys)
AreAbove-merge k [] ys h g = g
AreAbove-merge k (x ∷ xs) ys h g = AreAbove-add k (x.0) (x.1) (merge xs ys) (h.0) (AreAbove-merge k xs ys (h.1) g)

IsRising-drop : (xs : List (ℤ × ℤ)) (i : ℕ) → IsRising xs → IsRising (drop i xs)
IsRising-drop [] zero h = h
IsRising-drop [] (suc i) h = h
IsRising-drop (x ∷ xs) zero h = h
IsRising-drop (x ∷ xs) (suc i) h = IsRising-drop xs i (h.1)

merge_below : (xs : List (ℤ × ℤ)) (y : ℤ × ℤ) (ys : List (ℤ × ℤ)) → AreAbove (y.0) xs → merge xs (y ∷ ys) ≡ y ∷ merge xs ys
merge_below [] y ys h = refl
merge_below (x ∷ xs) y ys h = ap (add_at (x.0) (x.1)) (merge_below xs y ys (h.1)) ∙ add_above (x.0) (x.1) y (merge xs ys) (h.0)

above_all : (k : ℤ) (x : ℤ × ℤ) (xs : List (ℤ × ℤ)) → k <ℤ x.0 → IsRising (x ∷ xs) → AreAbove k (x ∷ xs)
above_all k x xs h r = (h, AreAbove-lower k (x.0) xs h (r.0))

merge_left : (x y : ℤ × ℤ) (xs ys : List (ℤ × ℤ)) → IsRising (x ∷ xs) → IsRising (y ∷ ys) → x.0 <ℤ y.0 → merge (x ∷ xs) (y ∷ ys) ≡ x ∷ merge xs (y ∷ ys)
merge_left x y xs ys r s h = add_at_front x (merge xs (y ∷ ys)) (AreAbove-merge (x.0) xs (y ∷ ys) (r.0) (above_all (x.0) y ys h s))

merge_right : (x y : ℤ × ℤ) (xs ys : List (ℤ × ℤ)) → IsRising (x ∷ xs) → y.0 <ℤ x.0 → merge (x ∷ xs) (y ∷ ys) ≡ y ∷ merge (x ∷ xs) ys
merge_right x y xs ys r h = merge_below (x ∷ xs) y ys (above_all (y.0) x xs h r)

merge_both : (x y : ℤ × ℤ) (xs ys : List (ℤ × ℤ)) → IsRising (x ∷ xs) → x.0 ≡ y.0 → merge (x ∷ xs) (y ∷ ys) ≡ (x.0, wrap (x.1 +ℤ y.1)) ∷ merge xs ys
merge_both x y xs ys r h =
    ap (add_at (x.0) (x.1)) (merge_below xs y ys (subst (λ (k : ℤ). AreAbove k xs) h (r.0)))
    ∙ subst (λ (k : ℤ). add_at k (x.1) (y ∷ merge xs ys) ≡ (k, wrap (x.1 +ℤ y.1)) ∷ merge xs ys) (sym h) (add_same (y.0) (x.1) (y.1) (merge xs ys))

-- one amount on the right is an amount added
pub merge_one : (xs : List (ℤ × ℤ)) (e : ℤ × ℤ) → IsRising xs → merge xs (e ∷ []) ≡ add_at (e.0) (e.1) xs
merge_one [] e r = refl
merge_one (x ∷ xs) e r = elim (compare (e.0) (x.0)) [
  | below h ↦ merge_right x e xs [] r h ∙ ap (λ l. e ∷ l) (merge_nil (x ∷ xs) r) ∙ sym (add_below (e.0) (e.1) x xs h)
  | same h ↦ merge_both x e xs [] r (sym h) ∙ ap (λ l. (x.0, wrap (x.1 +ℤ e.1)) ∷ l) (merge_nil xs (r.1))
      ∙ subst (λ (k : ℤ). (x.0, wrap (x.1 +ℤ e.1)) ∷ xs ≡ add_at k (e.1) (x ∷ xs)) (sym h)
      (ap (λ z. (x.0, wrap z) ∷ xs) (let c : x.1 +ℤ e.1 ≡ e.1 +ℤ x.1 = omega (arith, ints) in c) ∙ sym (add_same (x.0) (e.1) (x.1) xs))
  | above h ↦ merge_left x e xs [] r (tt, tt) h ∙ ap (λ l. x ∷ l) (merge_one xs e (r.1)) ∙ sym (add_above (e.0) (e.1) x xs h)
]

drop_all : (xs : List (ℤ × ℤ)) (i : ℕ) → length xs ≤ i → drop i xs ≡ []
drop_all [] zero h = refl
drop_all [] (suc i) h = refl
drop_all (x ∷ xs) zero h = absurd (omega arith)
drop_all (x ∷ xs) (suc i) h = drop_all xs i (omega arith)

push_step : (sums more rest step all : List (ℤ × ℤ)) (e : ℤ × ℤ) → more ≡ sums ++ e ∷ [] → step ≡ e ∷ rest → sums ++ step ≡ all → more ++ rest ≡ all
push_step sums more rest step all e m s a = ap (λ l. l ++ rest) m ∙ append_assoc sums (e ∷ []) rest ∙ ap (λ l. sums ++ l) (sym s) ∙ a

-- what is merged so far, and what is left of both sides
module _ (ls rs sums : List (ℤ × ℤ)) (i j : ℕ) (l_rises : IsRising ls) (r_rises : IsRising rs) (so_far : sums ++ merge (drop i ls) (drop j rs) ≡ merge ls rs) where
  module _ (e f : ℤ × ℤ) (h : i < length ls) (g : j < length rs) (e_is : e ≡ get_or ls i e) (f_is : f ≡ get_or rs j f) where
    l_rest : drop i ls ≡ e ∷ drop (suc i) ls
    l_rest = drop-cons ls i e h ∙ ap (λ x. x ∷ drop (suc i) ls) (sym e_is)

    r_rest : drop j rs ≡ f ∷ drop (suc j) rs
    r_rest = drop-cons rs j f g ∙ ap (λ x. x ∷ drop (suc j) rs) (sym f_is)

    l_rise : IsRising (e ∷ drop (suc i) ls)
    l_rise = subst IsRising l_rest (IsRising-drop ls i l_rises)

    r_rise : IsRising (f ∷ drop (suc j) rs)
    r_rise = subst IsRising r_rest (IsRising-drop rs j r_rises)

    pub merges-left : (more : List (ℤ × ℤ)) (i' : ℕ) → i' ≡ suc i → e.0 <ℤ f.0 → more ≡ sums ++ e ∷ [] → more ++ merge (drop i' ls) (drop j rs) ≡ merge ls rs
    merges-left more i' s b m =
        push_step sums more (merge (drop i' ls) (drop j rs)) (merge (drop i ls) (drop j rs)) (merge ls rs) e m
        (ap (λ l. merge l (drop j rs)) l_rest ∙ ap (merge (e ∷ drop (suc i) ls)) r_rest ∙ merge_left e f (drop (suc i) ls) (drop (suc j) rs) l_rise r_rise b
        ∙ ap (λ l. e ∷ merge (drop (suc i) ls) l) (sym r_rest) ∙ ap (λ n. e ∷ merge (drop n ls) (drop j rs)) (sym s))
        so_far

    pub merges-right : (more : List (ℤ × ℤ)) (j' : ℕ) → j' ≡ suc j → f.0 <ℤ e.0 → more ≡ sums ++ f ∷ [] → more ++ merge (drop i ls) (drop j' rs) ≡ merge ls rs
    merges-right more j' s b m =
        push_step sums more (merge (drop i ls) (drop j' rs)) (merge (drop i ls) (drop j rs)) (merge ls rs) f m
        (ap (λ l. merge l (drop j rs)) l_rest ∙ ap (merge (e ∷ drop (suc i) ls)) r_rest ∙ merge_right e f (drop (suc i) ls) (drop (suc j) rs) l_rise b
        ∙ ap (λ l. f ∷ merge l (drop (suc j) rs)) (sym l_rest) ∙ ap (λ n. f ∷ merge (drop i ls) (drop n rs)) (sym s))
        so_far

    pub merges-both : (more : List (ℤ × ℤ)) (i' j' : ℕ) (d : ℤ × ℤ) → i' ≡ suc i → j' ≡ suc j → e.0 ≡ f.0 → d ≡ (e.0, wrap (e.1 +ℤ f.1)) → more ≡ sums ++ d ∷ []
        → more ++ merge (drop i' ls) (drop j' rs) ≡ merge ls rs
    merges-both more i' j' d s t b is m =
        push_step sums more (merge (drop i' ls) (drop j' rs)) (merge (drop i ls) (drop j rs)) (merge ls rs) d m
        (ap (λ l. merge l (drop j rs)) l_rest ∙ ap (merge (e ∷ drop (suc i) ls)) r_rest ∙ merge_both e f (drop (suc i) ls) (drop (suc j) rs) l_rise b
        ∙ ap (λ x. x ∷ merge (drop (suc i) ls) (drop (suc j) rs)) (sym is) ∙ ap (λ n. d ∷ merge (drop n ls) (drop (suc j) rs)) (sym s)
        ∙ ap (λ n. d ∷ merge (drop i' ls) (drop n rs)) (sym t))
        so_far

  rest_is : (length ls ≤ i) ⊎ (length rs ≤ j) → merge (drop i ls) (drop j rs) ≡ drop i ls ++ drop j rs
  rest_is (inl h) = ap (λ l. merge l (drop j rs)) (drop_all ls i h) ∙ ap (λ l. l ++ drop j rs) (sym (drop_all ls i h))
  rest_is (inr h) = ap (merge (drop i ls)) (drop_all rs j h) ∙ merge_nil (drop i ls) (IsRising-drop ls i l_rises) ∙ sym (append-nil (drop i ls)) ∙ ap (λ l. drop i ls ++ l) (sym (drop_all rs j h))

  -- one side is at its end
  pub merges-rest : (length ls ≤ i) ⊎ (length rs ≤ j) → (sums ++ drop i ls) ++ drop j rs ≡ merge ls rs
  merges-rest e = append_assoc sums (drop i ls) (drop j rs) ∙ ap (λ r. sums ++ r) (sym (rest_is e)) ∙ so_far

cons_some : {X : Type 0} (x : X) (xs : List X) → x ∷ xs ≡ [] → ⊥
cons_some x xs h = cc

add_at_some : (k v : ℤ) (es : List (ℤ × ℤ)) → add_at k v es ≡ [] → ⊥
add_at_some k v [] h = cc
add_at_some k v (e ∷ es) h = elim (compare k (e.0)) [
  | below g ↦ (let b = sym (add_below k v e es g) ∙ h in cons_some _ _ b)
  | same g ↦ cons_some _ _ (sym (subst (λ (j : ℤ). add_at j v (e ∷ es) ≡ (j, wrap (v +ℤ e.1)) ∷ es) (sym g) (add_same (e.0) v (e.1) es)) ∙ h)
  | above g ↦ cons_some _ _ (sym (add_above k v e es g) ∙ h)
]

pub merge_nothing : (xs ys : List (ℤ × ℤ)) → merge xs ys ≡ [] → (xs ≡ []) × (ys ≡ [])
merge_nothing [] ys h = (refl, h)
merge_nothing (x ∷ xs) ys h = absurd (add_at_some (x.0) (x.1) (merge xs ys) h)
