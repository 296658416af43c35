-- Each kind's operation keeps to its values, and each kind but a table is a monoid.
use Rattle.std.specs.Prelude.{◌≡◌, ℕ, ◌+◌, ◌-◌, ◌*◌, ◌<◌, ℤ, pos, negsuc, ◌+ℤ◌, ◌*ℤ◌, int_lt, cond, Bool, true, false, List, [], ◌∷◌, ◌++◌, take, length, Option, Some, None, IfSome, All, refl, bit_and, bit_or, bit_xor}
use Rattle.std.specs.Int.{int_max, int_min, w64, cast_unsigned}
use Rattle.std.proofs.Common.{sym, ◌∙◌, ap, arith, append_assoc, append-nil, length-take, length-drop}
use Rattle.std.proofs.Math.Facts.{sfits_lit}
use Rattle.std.proofs.lemmas.Int.{ints, clamps, SFits-int_wrap}
use Rattle.std.proofs.lemmas.Nat.{rows, or_lt, xor_lt, and_assoc}
use Rattle.std.specs.Int.Bits.{and_lt, xor_assoc, or_zero_l, or_zero_r, xor_zero_l, xor_zero_r}
use Rattle.std.proofs.lemmas.List.Elements.{All-append, All-take, All-drop, All-cons, All-head, All-tail, All-nil}
use Rattle.monoid_laws.specs.Worth.{Worth, number, items, best, line, amounts, element, the_number, the_items, the_best, the_factor, the_term, the_amounts, the_element}
use Rattle.monoid_laws.specs.Kinds.{wrap, Fits, FitsPair, better, better_pair, add_at, merge, last_of, operate, identity_of, IsWorth, IsMonoid, IsMonoidTable, IsTableMonoid}
use Rattle.monoid_laws.specs.declared.Kind.{Kind}
use Rattle.monoid_laws.specs.declared.Kind.TheVariants as k
use Rattle.monoid_laws.specs.declared.Table.{Table}
use Rattle.monoid_laws.proofs.Numbers as n
use Rattle.monoid_laws.proofs.Lists as l
use Rattle.monoid_laws.proofs.Amounts as a

cond_fits : (b : Bool) (x y : ℤ) → Fits x → Fits y → Fits (cond b x y)
cond_fits true x y f g = f
cond_fits false x y f g = g

pair_fits : (b : Bool) (p q : ℤ × ℤ) → FitsPair p → FitsPair q → FitsPair (cond b q p)
pair_fits true p q f g = g
pair_fits false p q f g = f

cond_holds : {X : Type 0} (b : Bool) (P : X → Type 0) (x y : X) → P x → P y → P (cond b x y)
cond_holds true P x y f g = f
cond_holds false P x y f g = g

-- ---- the laws, kind by kind
add_laws : IsMonoid k.Add
add_laws = record {
  left_identity = λ x f. ap number (n.zero_add (the_number x) (f.1)) ∙ sym (f.0);
  right_identity = λ x f. ap number (n.add_zero (the_number x) (f.1)) ∙ sym (f.0);
  associative = λ x y z f g h. ap number (n.add_assoc (the_number x) (the_number y) (the_number z));
}

mul_laws : IsMonoid k.Mul
mul_laws = record {
  left_identity = λ x f. ap number (n.one_mul (the_number x) (f.1)) ∙ sym (f.0);
  right_identity = λ x f. ap number (n.mul_one (the_number x) (f.1)) ∙ sym (f.0);
  associative = λ x y z f g h. ap number (n.mul_assoc (the_number x) (the_number y) (the_number z));
}

min_left : (a : ℤ) → Fits a → int_min (pos 9223372036854775807) a ≡ a
min_left a f = omega (arith, ints, clamps)

min_right : (a : ℤ) → Fits a → int_min a (pos 9223372036854775807) ≡ a
min_right a f = omega (arith, ints, clamps)

max_left : (a : ℤ) → Fits a → int_max (negsuc 9223372036854775807) a ≡ a
max_left a f = omega (arith, ints, clamps)

max_right : (a : ℤ) → Fits a → int_max a (negsuc 9223372036854775807) ≡ a
max_right a f = omega (arith, ints, clamps)

min_laws : IsMonoid k.Min
min_laws = record {
  left_identity = λ x f. ap number (min_left (the_number x) (f.1)) ∙ sym (f.0);
  right_identity = λ x f. ap number (min_right (the_number x) (f.1)) ∙ sym (f.0);
  associative = λ x y z f g h. ap number (n.min_assoc (the_number x) (the_number y) (the_number z));
}

max_laws : IsMonoid k.Max
max_laws = record {
  left_identity = λ x f. ap number (max_left (the_number x) (f.1)) ∙ sym (f.0);
  right_identity = λ x f. ap number (max_right (the_number x) (f.1)) ∙ sym (f.0);
  associative = λ x y z f g h. ap number (n.max_assoc (the_number x) (the_number y) (the_number z));
}

and_laws : IsMonoid k.And
and_laws = record {
  left_identity = λ x f. ap number (n.bitwise_left bit_and (and_lt 64) (negsuc 0) (the_number x) (f.1) (n.and_ones_left (cast_unsigned w64 (the_number x)) (n.bits_below (the_number x) (f.1)))) ∙ sym (f.0);
  right_identity = λ x f. ap number (n.bitwise_right bit_and (and_lt 64) (negsuc 0) (the_number x) (f.1) (n.and_ones_right (cast_unsigned w64 (the_number x)) (n.bits_below (the_number x) (f.1)))) ∙ sym (f.0);
  associative = λ x y z f g h. ap number (n.bitwise_assoc bit_and (and_lt 64) (λ a b c. and_assoc c a b) (the_number x) (the_number y) (the_number z) (f.1) (g.1) (h.1));
}

or_laws : IsMonoid k.Or
or_laws = record {
  left_identity = λ x f. ap number (n.bitwise_left bit_or (or_lt 64) (pos 0) (the_number x) (f.1) (or_zero_l (cast_unsigned w64 (the_number x)))) ∙ sym (f.0);
  right_identity = λ x f. ap number (n.bitwise_right bit_or (or_lt 64) (pos 0) (the_number x) (f.1) (or_zero_r (cast_unsigned w64 (the_number x)))) ∙ sym (f.0);
  associative = λ x y z f g h. ap number (n.bitwise_assoc bit_or (or_lt 64) n.or_assoc (the_number x) (the_number y) (the_number z) (f.1) (g.1) (h.1));
}

xor_laws : IsMonoid k.Xor
xor_laws = record {
  left_identity = λ x f. ap number (n.bitwise_left bit_xor (xor_lt 64) (pos 0) (the_number x) (f.1) (xor_zero_l (cast_unsigned w64 (the_number x)))) ∙ sym (f.0);
  right_identity = λ x f. ap number (n.bitwise_right bit_xor (xor_lt 64) (pos 0) (the_number x) (f.1) (xor_zero_r (cast_unsigned w64 (the_number x)))) ∙ sym (f.0);
  associative = λ x y z f g h. ap number (n.bitwise_assoc bit_xor (xor_lt 64) xor_assoc (the_number x) (the_number y) (the_number z) (f.1) (g.1) (h.1));
}

list_laws : IsMonoid k.List
list_laws = record {
  left_identity = λ x f. sym (f.0);
  right_identity = λ x f. ap items (append-nil (the_items x)) ∙ sym (f.0);
  associative = λ x y z f g h. ap items (append_assoc (the_items x) (the_items y) (the_items z));
}

first_laws : (n : ℕ) → IsMonoid (k.First n)
first_laws n = record {
  left_identity = λ x f. ap items (l.take_all n (the_items x) (f.2)) ∙ sym (f.0);
  right_identity = λ x f. ap items (ap (take n) (append-nil (the_items x)) ∙ l.take_all n (the_items x) (f.2)) ∙ sym (f.0);
  associative = λ x y z f g h. ap items (l.first_assoc n (the_items x) (the_items y) (the_items z));
}

last_laws : (n : ℕ) → IsMonoid (k.Last n)
last_laws n = record {
  left_identity = λ x f. ap items (l.last_all n (the_items x) (f.2)) ∙ sym (f.0);
  right_identity = λ x f. ap items (ap (last_of n) (append-nil (the_items x)) ∙ l.last_all n (the_items x) (f.2)) ∙ sym (f.0);
  associative = λ x y z f g h. ap items (l.last_assoc n (the_items x) (the_items y) (the_items z));
}

better_none : (o : Option (ℤ × ℤ)) → better o None ≡ o
better_none None = refl
better_none (Some p) = refl

better_pair_assoc : (p q r : ℤ × ℤ) → better_pair (better_pair p q) r ≡ better_pair p (better_pair q r)
better_pair_assoc p q r = grind (arith, ints)

better_assoc : (x y z : Option (ℤ × ℤ)) → better (better x y) z ≡ better x (better y z)
better_assoc None y z = refl
better_assoc (Some p) None z = refl
better_assoc (Some p) (Some q) None = refl
better_assoc (Some p) (Some q) (Some r) = ap Some (better_pair_assoc p q r)

argmax_laws : IsMonoid k.Argmax
argmax_laws = record {
  left_identity = λ x f. sym (f.0);
  right_identity = λ x f. ap best (better_none (the_best x)) ∙ sym (f.0);
  associative = λ x y z f g h. ap best (better_assoc (the_best x) (the_best y) (the_best z));
}

pub line_same : (a a' b b' : ℤ) → a ≡ a' → b ≡ b' → line a b ≡ line a' b'
line_same a a' b b' p q = cc

affine_left : (a b : ℤ) → Fits b → wrap ((a *ℤ pos 0) +ℤ b) ≡ b
affine_left a b f = ap (λ z. wrap (z +ℤ b)) (n.times_zero a) ∙ n.zero_add b f

affine_right : (b : ℤ) → Fits b → wrap ((pos 1 *ℤ b) +ℤ pos 0) ≡ b
affine_right b f = ap (λ z. wrap (z +ℤ pos 0)) (n.one_times b) ∙ n.add_zero b f

affine_laws : IsMonoid k.Affine
affine_laws = record {
  left_identity = λ x f. line_same _ _ _ _ (n.one_mul (the_factor x) (f.1)) (affine_left (the_factor x) (the_term x) (f.2)) ∙ sym (f.0);
  right_identity = λ x f. line_same _ _ _ _ (n.mul_one (the_factor x) (f.1)) (affine_right (the_term x) (f.2)) ∙ sym (f.0);
  associative = λ x y z f g h. line_same _ _ _ _ (n.mul_assoc (the_factor x) (the_factor y) (the_factor z)) (n.affine_assoc (the_term x) (the_factor y) (the_term y) (the_factor z) (the_term z));
}

hist_laws : IsMonoid k.Hist
hist_laws = record {
  left_identity = λ x f. sym (f.0);
  right_identity = λ x f. ap amounts (a.merge_nil (the_amounts x) (f.1)) ∙ sym (f.0);
  associative = λ x y z f g h. ap amounts (a.merge_assoc (the_amounts x) (the_amounts y) (the_amounts z));
}

-- ---- what the operation gives is a value of the kind
number_right : (z : ℤ) → Fits z → (number z ≡ number z) × Fits z
number_right z f = (refl, f)

better_fits : (x y : Option (ℤ × ℤ)) → IfSome x FitsPair → IfSome y FitsPair → IfSome (better x y) FitsPair
better_fits None y f g = g
better_fits (Some p) None f g = f
better_fits (Some p) (Some q) f g = pair_fits (int_lt (p.0) (q.0)) p q f g

add_at_fits : (k v : ℤ) (es : List (ℤ × ℤ)) → FitsPair (k, v) → All FitsPair es → All FitsPair (add_at k v es)
add_at_fits k v [] h f = All-cons FitsPair (k, v) [] h f
add_at_fits k v (e ∷ es) h f =
    cond_holds (int_lt k (e.0)) (λ (r : List (ℤ × ℤ)). All FitsPair r) ((k, v) ∷ (e ∷ es)) _
    (All-cons FitsPair (k, v) (e ∷ es) h f)
    (cond_holds (int_lt (e.0) k) (λ (r : List (ℤ × ℤ)). All FitsPair r) (e ∷ add_at k v es) ((k, wrap (v +ℤ e.1)) ∷ es)
    (All-cons FitsPair e (add_at k v es) (All-head FitsPair e es f) (add_at_fits k v es h (All-tail FitsPair e es f)))
    (All-cons FitsPair (k, wrap (v +ℤ e.1)) es (h.0, SFits-int_wrap w64 (v +ℤ e.1)) (All-tail FitsPair e es f)))

merge_fits : (xs ys : List (ℤ × ℤ)) → All FitsPair xs → All FitsPair ys → All FitsPair (merge xs ys)
merge_fits [] ys f g = g
merge_fits (x ∷ xs) ys f g = add_at_fits (x.0) (x.1) (merge xs ys) (All-head FitsPair x xs f) (merge_fits xs ys (All-tail FitsPair x xs f) g)

table_within : (n a b : ℕ) → a < n → b < n → a * n + b < n * n
table_within n a b h g = grind (arith, rows)

pub operate_right : (c : Kind) (x y : Worth) → IsWorth c x → IsWorth c y → IsWorth c (operate c x y)
operate_right k.Add x y f g = number_right _ (SFits-int_wrap w64 (the_number x +ℤ the_number y))
operate_right k.Mul x y f g = number_right _ (SFits-int_wrap w64 (the_number x *ℤ the_number y))
operate_right k.Min x y f g = number_right _ (cond_fits (int_lt (the_number y) (the_number x)) (the_number y) (the_number x) (g.1) (f.1))
operate_right k.Max x y f g = number_right _ (cond_fits (int_lt (the_number y) (the_number x)) (the_number x) (the_number y) (f.1) (g.1))
operate_right k.And x y f g = number_right _ (n.bitwise_fits bit_and (and_lt 64) (the_number x) (the_number y) (f.1) (g.1))
operate_right k.Or x y f g = number_right _ (n.bitwise_fits bit_or (or_lt 64) (the_number x) (the_number y) (f.1) (g.1))
operate_right k.Xor x y f g = number_right _ (n.bitwise_fits bit_xor (xor_lt 64) (the_number x) (the_number y) (f.1) (g.1))
operate_right k.List x y f g = (refl, All-append Fits (the_items x) (the_items y) (f.1) (g.1))
operate_right (k.First m) x y f g = (refl, All-take Fits m (the_items x ++ the_items y) (All-append Fits (the_items x) (the_items y) (f.1) (g.1)), omega (arith, length-take m (the_items x ++ the_items y)))
operate_right (k.Last m) x y f g =
    let j : ℕ = length (the_items x ++ the_items y) - m in
    (refl, All-drop Fits j (the_items x ++ the_items y) (All-append Fits (the_items x) (the_items y) (f.1) (g.1)), omega (arith, length-drop j (the_items x ++ the_items y)))
operate_right k.Argmax x y f g = (refl, better_fits (the_best x) (the_best y) (f.1) (g.1))
operate_right k.Affine x y f g = (refl, SFits-int_wrap w64 (the_factor x *ℤ the_factor y), SFits-int_wrap w64 ((the_factor y *ℤ the_term x) +ℤ the_term y))
operate_right k.Hist x y f g = (refl, a.IsRising-merge (the_amounts x) (the_amounts y) (g.1), merge_fits (the_amounts x) (the_amounts y) (f.2) (g.2))
operate_right (k.Table t) x y f g = (refl, t.cells_in (the_element x * t.size + the_element y) (table_within t.size (the_element x) (the_element y) (f.1) (g.1)))

pub identity_right : (c : Kind) → IsWorth c (identity_of c)
identity_right k.Add = number_right _ (sfits_lit tt)
identity_right k.Mul = number_right _ (sfits_lit tt)
identity_right k.Min = number_right _ (sfits_lit tt)
identity_right k.Max = number_right _ (sfits_lit tt)
identity_right k.And = number_right _ (sfits_lit tt)
identity_right k.Or = number_right _ (sfits_lit tt)
identity_right k.Xor = number_right _ (sfits_lit tt)
identity_right k.List = (refl, All-nil Fits)
identity_right (k.First n) = (refl, All-nil Fits, omega arith)
identity_right (k.Last n) = (refl, All-nil Fits, omega arith)
identity_right k.Argmax = (refl, tt)
identity_right k.Affine = (refl, sfits_lit tt, sfits_lit tt)
identity_right k.Hist = (refl, tt, All-nil FitsPair)
identity_right (k.Table t) = (refl, t.unit_in)

table_left : (t : Table) → IsMonoidTable t → (x : Worth) → IsWorth (k.Table t) x → operate (k.Table t) (identity_of (k.Table t)) x ≡ x
table_left t h x f = ap element (h.left_identity (the_element x) (f.1)) ∙ sym (f.0)

table_laws : (t : Table) → IsMonoidTable t → IsMonoid (k.Table t)
table_laws t h = record {
  left_identity = table_left t h;
  right_identity = λ x f. ap element (h.right_identity (the_element x) (f.1)) ∙ sym (f.0);
  associative = λ x y z f g i. ap element (h.associative (the_element x) (the_element y) (the_element z) (f.1) (g.1) (i.1));
}

-- a kind is a monoid where its table, if it is one, is
pub IsMonoid-kind : (c : Kind) → IsTableMonoid c → IsMonoid c
IsMonoid-kind k.Add h = add_laws
IsMonoid-kind k.Mul h = mul_laws
IsMonoid-kind k.Min h = min_laws
IsMonoid-kind k.Max h = max_laws
IsMonoid-kind k.And h = and_laws
IsMonoid-kind k.Or h = or_laws
IsMonoid-kind k.Xor h = xor_laws
IsMonoid-kind k.List h = list_laws
IsMonoid-kind (k.First n) h = first_laws n
IsMonoid-kind (k.Last n) h = last_laws n
IsMonoid-kind k.Argmax h = argmax_laws
IsMonoid-kind k.Affine h = affine_laws
IsMonoid-kind k.Hist h = hist_laws
IsMonoid-kind (k.Table t) h = table_laws t h
