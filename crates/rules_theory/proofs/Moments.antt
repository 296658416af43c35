-- Which of two moments is the later.
use Rattle.std.proofs.Common.{◌≡◌, ℕ, ◌+◌, ◌≤◌, Bool, true, false, ◌&&◌, ◌||◌, ◌==◌, nat_lt, refl, inl, inr, ◌⊎◌, arith, lt-ltb}
use Rattle.std.proofs.lemmas.Bool.{eqb-true, ltb-true, le-ltb, eq-eqb}
use Rattle.linked_program.specs.declared.knowledge.Moment.{Moment}
use Rattle.linked_program.specs.Scope.{moment, precedes}

split_true : (p q r : Bool) → (p || (q && r)) ≡ true → (p ≡ true) ⊎ ((q ≡ true) × (r ≡ true))
split_true true q r e = inl refl
split_true false true r e = inr (refl, e)
split_true false false r e = cc

first_true : (p q : Bool) → p ≡ true → (p || q) ≡ true
first_true true q e = refl
first_true false q e = cc

second_true : (p q r : Bool) → q ≡ true → r ≡ true → (p || (q && r)) ≡ true
second_true true q r e f = refl
second_true false true r e f = f
second_true false false r e f = cc

both_false : (p q r : Bool) → p ≡ false → r ≡ false → (p || (q && r)) ≡ false
both_false true q r e f = cc
both_false false true r e f = f
both_false false false r e f = refl

pub precedes_depth : (a b : Moment) → precedes a b ≡ true → a.depth ≤ b.depth
precedes_depth a b e = elim (split_true (nat_lt a.depth b.depth) (a.depth == b.depth) (nat_lt a.place b.place) e) [
  | inl p ↦ let below = ltb-true a.depth b.depth p in omega (arith, below)
  | inr p ↦ let same = eqb-true a.depth b.depth p.0 in omega (arith, same)
]

pub not_before_itself : (a : Moment) → precedes a a ≡ false
not_before_itself a = both_false (nat_lt a.depth a.depth) (a.depth == a.depth) (nat_lt a.place a.place) (le-ltb a.depth a.depth (omega arith)) (le-ltb a.place a.place (omega arith))

pub before_inside : (a : Moment) (depth place : ℕ) → a.depth ≤ depth → precedes a (moment (depth + 1) place) ≡ true
before_inside a depth place h = first_true (nat_lt a.depth (depth + 1)) ((a.depth == depth + 1) && nat_lt a.place place) (lt-ltb a.depth (depth + 1) (omega (arith, h)))

pub before_next : (a : Moment) (depth place : ℕ) → precedes a (moment depth place) ≡ true → precedes a (moment depth (place + 1)) ≡ true
before_next a depth place e = elim (split_true (nat_lt a.depth depth) (a.depth == depth) (nat_lt a.place place) e) [
  | inl p ↦ first_true (nat_lt a.depth depth) ((a.depth == depth) && nat_lt a.place (place + 1)) p
  | inr p ↦ let below = ltb-true a.place place p.1 in second_true (nat_lt a.depth depth) (a.depth == depth) (nat_lt a.place (place + 1)) p.0 (lt-ltb a.place (place + 1) (omega (arith, below)))
]

pub now_before_next : (depth place : ℕ) → precedes (moment depth place) (moment depth (place + 1)) ≡ true
now_before_next depth place = second_true (nat_lt depth depth) (depth == depth) (nat_lt place (place + 1)) (eq-eqb depth depth refl) (lt-ltb place (place + 1) (omega arith))
