-- Arguments that read nothing.
use Rattle.std.proofs.Common.{◌≡◌, ◌≢◌, ℕ, zero, suc, ◌<◌, nat_eq, ℤ, Bool, true, false, not, ◌&&◌, List, [], ◌∷◌, length, take, drop, get_or, slice_get, slice_set, Some, Ok, refl, sym, ap, ◌∙◌, subst, arith}
use Rattle.std.proofs.lemmas.Bool.Decides.{Decides-eqb}
use Rattle.meaning.specs.Tables.{Tables}
use Rattle.linked_program.specs.Linked.{Linked, constant, slot, cell_at, has_at, limit_at, sum_at, minus, joined}
use Rattle.evaluation.specs.declared.slot.Slot.{Slot}
use Rattle.evaluation.specs.declared.slot.Slot.TheVariants.{Has}
use Rattle.evaluation.specs.Slots.{number_in}
use Rattle.evaluation.specs.Values.{value_at, values_at, pure, mapped, NumberedOut, ◌>>=◌}
use Rattle.answered_loops.specs.Arguments.{is_fixed, are_fixed, is_slot, counts, number_over, numbers_over}

-- ---- slots

other_slot : (xs : List Slot) (x y : ℕ) (s : Slot) → y ≢ x → slice_get (slice_set xs x s) y ≡ slice_get xs y
other_slot [] x y s n = refl
other_slot (z ∷ xs) zero zero s n = absurd (n refl)
other_slot (z ∷ xs) zero (suc y) s n = refl
other_slot (z ∷ xs) (suc x) zero s n = refl
other_slot (z ∷ xs) (suc x) (suc y) s n = other_slot xs x y s (λ e. n (ap suc e))

this_slot : (xs : List Slot) (x : ℕ) (s : Slot) → x < length xs → slice_get (slice_set xs x s) x ≡ Some s
this_slot [] x s l = absurd (let none : ⊥ = omega arith in none)
this_slot (z ∷ xs) zero s l = refl
this_slot (z ∷ xs) (suc x) s l = this_slot xs x s (omega arith)

is_other : (y x : ℕ) (b : Bool) → nat_eq y x ≡ b → not b ≡ true → y ≢ x
is_other y x true e n same = absurd cc
is_other y x false e n same = absurd (let t : nat_eq y x ≡ true = (Decides-eqb y x).1 same in cc)

both : (a b : Bool) → (a && b) ≡ true → (a ≡ true) × (b ≡ true)
both true b e = (refl, e)
both false b e = absurd cc

module _ (tables : Tables) (slots : List Slot) (x : ℕ) (v : ℤ) where
  abbrev now : List Slot
  now = slice_set slots x (Has v)

  fixed : (e : Linked) → is_fixed x e ≡ true → value_at tables now e ≡ pure (number_over slots e)
  fixed (constant n) h = refl
  fixed (slot y) h = ap (λ o. pure (number_in o)) (other_slot slots x y (Has v) (is_other y x (nat_eq y x) refl h))
  fixed (cell_at t e c) h = absurd cc
  fixed (has_at t e) h = absurd cc
  fixed (limit_at t) h = absurd cc
  fixed (sum_at t c) h = absurd cc
  fixed (minus e) h = absurd cc
  fixed (joined op e f) h = absurd cc

  counted : (e : Linked) → x < length slots → is_slot x e ≡ true → value_at tables now e ≡ pure v
  counted (constant n) l h = absurd cc
  counted (slot y) l h = ap (λ z. pure (number_in (slice_get now z))) ((Decides-eqb y x).0 h) ∙ ap (λ o. pure (number_in o)) (this_slot slots x (Has v) l)
  counted (cell_at t e c) l h = absurd cc
  counted (has_at t e) l h = absurd cc
  counted (limit_at t) l h = absurd cc
  counted (sum_at t c) l h = absurd cc
  counted (minus e) l h = absurd cc
  counted (joined op e f) l h = absurd cc

  one_more : (e : Linked) (es : List Linked) (a : ℤ) (as' : List ℤ) → value_at tables now e ≡ pure a → values_at tables now es ≡ pure as' → values_at tables now (e ∷ es) ≡ pure (a ∷ as')
  one_more e es a as' first rest =
      ap (λ o. o >>= (λ w. mapped (λ ws. w ∷ ws) (values_at tables now es))) first ∙ ap (mapped (λ ws. a ∷ ws)) rest

  all_fixed : (es : List Linked) → are_fixed x es ≡ true → values_at tables now es ≡ pure (numbers_over slots es)
  all_fixed [] h = refl
  all_fixed (e ∷ es) h =
      let p = both (is_fixed x e) (are_fixed x es) h in
      one_more e es (number_over slots e) (numbers_over slots es) (fixed e p.0) (all_fixed es p.1)

  pub plain_values : (place : ℕ) (es : List Linked) → counts x place es ≡ true → x < length slots → values_at tables now es ≡ pure (slice_set (numbers_over slots es) place v)
  plain_values place [] h l = absurd cc
  plain_values zero (e ∷ es) h l =
      let p = both (is_slot x e) (are_fixed x es) h in
      one_more e es v (numbers_over slots es) (counted e l p.0) (all_fixed es p.1)
  plain_values (suc place) (e ∷ es) h l =
      let p = both (is_fixed x e) (counts x place es) h in
      one_more e es (number_over slots e) (slice_set (numbers_over slots es) place v) (fixed e p.0) (plain_values place es p.1 l)

-- ---- numbers that are known of one iteration

set_again : (xs : List ℤ) (i : ℕ) (a b : ℤ) → slice_set (slice_set xs i a) i b ≡ slice_set xs i b
set_again [] i a b = refl
set_again (x ∷ xs) zero a b = refl
set_again (x ∷ xs) (suc i) a b = ap (λ ys. x ∷ ys) (set_again xs i a b)

get_set : (xs : List ℤ) (i : ℕ) (a : ℤ) → i < length xs → slice_get (slice_set xs i a) i ≡ Some a
get_set [] i a l = absurd (let none : ⊥ = omega arith in none)
get_set (x ∷ xs) zero a l = refl
get_set (x ∷ xs) (suc i) a l = get_set xs i a (omega arith)

long_as : (xs : List ℤ) (i : ℕ) (a : ℤ) → length (slice_set xs i a) ≡ length xs
long_as [] i a = refl
long_as (x ∷ xs) zero a = refl
long_as (x ∷ xs) (suc i) a = ap suc (long_as xs i a)

within : (slots : List Slot) (x place : ℕ) (es : List Linked) → counts x place es ≡ true → place < length (numbers_over slots es)
within slots x place [] h = absurd cc
within slots x zero (e ∷ es) h = omega arith
within slots x (suc place) (e ∷ es) h = let less : place < length (numbers_over slots es) = within slots x place es (both (is_fixed x e) (counts x place es) h).1 in omega arith

module _ (tables : Tables) (slots : List Slot) (x place : ℕ) (es : List Linked) (v : ℤ) (vs : List ℤ) (goes : counts x place es ≡ true) (there : x < length slots)
    (values : values_at tables (slice_set slots x (Has v)) es ≡ pure vs) where
  known : slice_set (numbers_over slots es) place v ≡ vs
  known =
      let same : Ok (slice_set (numbers_over slots es) place v) ≡ Ok vs = ap (λ (o : NumberedOut (List ℤ)). o.answer) (sym (plain_values tables slots x v place es goes there) ∙ values) in
      cc

  -- the number at the counted place
  pub counted_is : slice_get vs place ≡ Some v
  counted_is = ap (λ ns. slice_get ns place) (sym known) ∙ get_set (numbers_over slots es) place v (within slots x place es goes)

  pub counted_within : place < length vs
  counted_within = subst (λ n. place < n) (sym (long_as (numbers_over slots es) place v) ∙ ap length known) (within slots x place es goes)

  -- the values of another iteration
  pub other_values : (w : ℤ) → values_at tables (slice_set slots x (Has w)) es ≡ pure (slice_set vs place w)
  other_values w =
      plain_values tables slots x w place es goes there ∙ ap pure (sym (set_again (numbers_over slots es) place v w) ∙ ap (λ ns. slice_set ns place w) known)
