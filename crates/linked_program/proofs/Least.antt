-- The first of violations is one of them, and none of them comes before it.
use Rattle.std.proofs.Common.{◌≡◌, ℕ, ◌≤◌, Bool, true, false, cond, ◌==◌, ◌&&◌, ◌||◌, nat_lt, rules, List, [], ◌∷◌, Some, ◌⊎◌, inl, inr, refl, arith}
use Rattle.std.proofs.lemmas.Bool.{eqb-true, ltb-true, ltb-false, le-ltb}
use Rattle.linked_program.specs.declared.violation.Violation.{Violation}
use Rattle.linked_program.specs.Violations.{number_of, comes_before, earlier, noted, first_of}
use Rattle.linked_program.specs.First.{IsFirst, IsFirstOf}

-- one pair of numbers isn't before another
record IsNotBefore (a b : ℕ) (rest : Bool) : Type 0 where
  at_most : b ≤ a
  then : a ≡ b → rest ≡ false

split_or : (p q r : Bool) → (p || (q && r)) ≡ false → (p ≡ false) × (q ≡ true → r ≡ false)
split_or true q r e = cc
split_or false false r e = (refl, λ f. cc)
split_or false true r e = (refl, λ f. e)

join_or : (p q r : Bool) → p ≡ false → (q ≡ true → r ≡ false) → (p || (q && r)) ≡ false
join_or true q r e f = cc
join_or false false r e f = refl
join_or false true r e f = f refl

same_number : (a b : ℕ) → a ≡ b → (a == b) ≡ true
same_number a b e = search rules

not_before : (a b : ℕ) (r : Bool) → (nat_lt a b || ((a == b) && r)) ≡ false → IsNotBefore a b r
not_before a b r e =
    let s = split_or (nat_lt a b) (a == b) r e in
    record { at_most = ltb-false a b s.0; then = λ q. s.1 (same_number a b q) }

never_before : (a b : ℕ) (r : Bool) → IsNotBefore a b r → (nat_lt a b || ((a == b) && r)) ≡ false
never_before a b r h = join_or (nat_lt a b) (a == b) r (le-ltb a b h.at_most) (λ q. h.then (eqb-true a b q))

across : (a b c : ℕ) (p q r : Bool) → (p ≡ false → q ≡ false → r ≡ false) → IsNotBefore a b p → IsNotBefore b c q → IsNotBefore a c r
across a b c p q r f h k =
    let below = h.at_most in
    let more = k.at_most in
    record {
      at_most = omega arith;
      then = λ e. f (h.then (omega arith)) (k.then (omega arith));
    }

rules_across : (a b c : ℕ) → nat_lt a b ≡ false → nat_lt b c ≡ false → nat_lt a c ≡ false
rules_across a b c e f = let x = ltb-false a b e in let y = ltb-false b c f in le-ltb a c (omega arith)

abbrev rule_order : Violation → Violation → Bool
rule_order u v = nat_lt (number_of u.rule) (number_of v.rule)

abbrev line_order : Violation → Violation → Bool
line_order u v = nat_lt u.line v.line || ((u.line == v.line) && rule_order u v)

lines_across : (u v w : Violation) → line_order u v ≡ false → line_order v w ≡ false → line_order u w ≡ false
lines_across u v w e f =
    never_before u.line w.line (rule_order u w)
    (across u.line v.line w.line (rule_order u v) (rule_order v w) (rule_order u w)
    (rules_across (number_of u.rule) (number_of v.rule) (number_of w.rule))
    (not_before u.line v.line (rule_order u v) e)
    (not_before v.line w.line (rule_order v w) f))

-- one not before a second that isn't before a third
before_across : (u v w : Violation) → comes_before u v ≡ false → comes_before v w ≡ false → comes_before u w ≡ false
before_across u v w e f =
    never_before u.declaration w.declaration (line_order u w)
    (across u.declaration v.declaration w.declaration (line_order u v) (line_order v w) (line_order u w)
    (lines_across u v w)
    (not_before u.declaration v.declaration (line_order u v) e)
    (not_before v.declaration w.declaration (line_order v w) f))

-- a number that isn't below another, and what holds where they are equal
record IsAfter (a b : ℕ) (rest : Bool) : Type 0 where
  at_most : a ≤ b
  then : b ≡ a → rest ≡ true

split_true : (p q r : Bool) → (p || (q && r)) ≡ true → (p ≡ true) ⊎ ((q ≡ true) × (r ≡ true))
split_true true q r e = inl refl
split_true false true r e = inr (refl, e)
split_true false false r e = cc

is_after : (a b : ℕ) (r : Bool) → (nat_lt a b || ((a == b) && r)) ≡ true → IsAfter a b r
is_after a b r e = elim (split_true (nat_lt a b) (a == b) r e) [
  | inl p ↦ let below = ltb-true a b p in record { at_most = omega arith; then = λ q. absurd (omega (arith, below, q)) }
  | inr p ↦ let same = eqb-true a b p.0 in record { at_most = omega arith; then = λ q. p.1 }
]

turned : (a b : ℕ) (r q : Bool) → (r ≡ true → q ≡ false) → IsAfter a b r → IsNotBefore b a q
turned a b r q f h = record { at_most = h.at_most; then = λ e. f (h.then e) }

rules_one_way : (a b : ℕ) → nat_lt a b ≡ true → nat_lt b a ≡ false
rules_one_way a b e = let below = ltb-true a b e in le-ltb b a (omega arith)

lines_one_way : (u v : Violation) → line_order u v ≡ true → line_order v u ≡ false
lines_one_way u v e =
    never_before v.line u.line (rule_order v u) (turned u.line v.line (rule_order u v) (rule_order v u) (rules_one_way (number_of u.rule) (number_of v.rule)) (is_after u.line v.line (rule_order u v) e))

-- of two only one comes before the other
one_way : (u v : Violation) → comes_before u v ≡ true → comes_before v u ≡ false
one_way u v e =
    never_before v.declaration u.declaration (line_order v u)
    (turned u.declaration v.declaration (line_order u v) (line_order v u) (lines_one_way u v) (is_after u.declaration v.declaration (line_order u v) e))

not_itself : (v : Violation) (b : Bool) → comes_before v v ≡ b → comes_before v v ≡ false
not_itself v true e = one_way v v e
not_itself v false e = e

-- ---- the least so far

abbrev least : Violation → List Violation → Violation
least v [] = v
least v (w ∷ ws) = least (earlier (Some v) w) ws

noted_is : (v : Violation) (vs : List Violation) → noted (Some v) vs ≡ Some (least v vs)
noted_is v [] = refl
noted_is v (w ∷ ws) = noted_is (earlier (Some v) w) ws

first_alone : (v : Violation) → IsFirst (v ∷ []) v
first_alone v = record {
  member = inl refl;
  least = λ w i. elim i [
    | inl e ↦ let s = not_itself v (comes_before v v) refl in rw e s
    | inr e ↦ absurd e
  ];
}

-- the earlier of two, and then of the others
one_more : (v w r : Violation) (ws : List Violation) (b : Bool) → comes_before w v ≡ b → IsFirst (cond b w v ∷ ws) r → IsFirst (v ∷ w ∷ ws) r
one_more v w r ws true e h = record {
  member = inr h.member;
  least = λ x i. elim i [
    | inl q ↦ let s = before_across v w r (one_way w v e) (h.least w (inl refl)) in rw q s
    | inr j ↦ h.least x j
  ];
}
one_more v w r ws false e h = record {
  member = elim h.member [
    | inl q ↦ inl q
    | inr j ↦ inr (inr j)
  ];
  least = λ x i. elim i [
    | inl q ↦ h.least x (inl q)
    | inr (inl q) ↦ let s = before_across w v r e (h.least v (inl refl)) in rw q s
    | inr (inr j) ↦ h.least x (inr j)
  ];
}

least_is_first : (v : Violation) (vs : List Violation) → IsFirst (v ∷ vs) (least v vs)
least_is_first v [] = first_alone v
least_is_first v (w ∷ ws) = one_more v w (least (earlier (Some v) w) ws) ws (comes_before w v) refl (least_is_first (earlier (Some v) w) ws)

pub first_is_least : (vs : List Violation) → IsFirstOf vs (first_of vs)
first_is_least [] = refl
first_is_least (v ∷ vs) = rw (noted_is v vs) (least_is_first v vs)
