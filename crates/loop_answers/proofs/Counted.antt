-- Arguments that count up: a slot at a place, and beside it numbers and other slots.
use Rattle.std.proofs.Common.{◌≡◌, ℕ, zero, suc, ◌+◌, ◌<◌, ℤ, Bool, true, false, ◌&&◌, Some, slice_get, slice_set, List, [], ◌∷◌, map, length, take, drop, get_or, refl, sym, ap, ◌∙◌, subst, arith, add-one}
use Rattle.std.proofs.lemmas.Bool.Decides.{Decides-eqb}
use Rattle.meaning.specs.Tables.{Tables}
use Rattle.linked_program.specs.Linked.{Linked, constant, slot, cell_at, has_at, limit_at, sum_at, minus, joined}
use Rattle.evaluation.specs.declared.slot.Slot.{Slot}
use Rattle.evaluation.specs.declared.slot.Slot.TheVariants.{Has}
use Rattle.evaluation.specs.Slots.{number_in}
use Rattle.evaluation.specs.Values.{values_at, pure}
use Rattle.linked_program.specs.declared.code.Expression.{Expression}
use Rattle.linked_program.specs.CodeView.{expression as plain}
use Rattle.answered_loops.specs.Arguments.{counts, are_fixed, is_fixed, is_slot}

both : (a b : Bool) → (a && b) ≡ true → (a ≡ true) × (b ≡ true)
both true b e = (refl, e)
both false b e = absurd cc

goes_on : (x place : ℕ) (e : Expression) (es : List Expression) → place < length es → e ≡ get_or es place e → is_slot x (plain e) ≡ true
    → (are_fixed x (map plain (take place es)) && are_fixed x (map plain (drop (suc place) es))) ≡ true → counts x place (map plain es) ≡ true
goes_on x place e [] l at here others = absurd (let none : ⊥ = omega arith in none)
goes_on x zero e (f ∷ es) l at here others =
    let same : e ≡ f = at in
    ap (λ k. is_slot x (plain k) && are_fixed x (map plain es)) (sym same) ∙ ap (λ b. b && are_fixed x (map plain es)) here ∙ others
goes_on x (suc place) e (f ∷ es) l at here others =
    let behind : Bool = are_fixed x (map plain (drop (suc place) es)) in
    let p = both (is_fixed x (plain f) && are_fixed x (map plain (take place es))) behind others in
    let q = both (is_fixed x (plain f)) (are_fixed x (map plain (take place es))) p.0 in
    ap (λ b. b && counts x place (map plain es)) q.0 ∙ goes_on x place e es (omega arith) at here (ap (λ b. b && behind) q.1 ∙ p.1)

pub goes_by : (x place : ℕ) (e : Expression) (es : List Expression) → place < length es → e ≡ get_or es place e → is_slot x (plain e) ≡ true
    → (are_fixed x (map plain (take place es)) && are_fixed x (map plain (drop (place + 1) es))) ≡ true → counts x place (map plain es) ≡ true
goes_by x place e es l at here others =
    goes_on x place e es l at here (subst (λ n. (are_fixed x (map plain (take place es)) && are_fixed x (map plain (drop n es))) ≡ true) (add-one place) others)

-- ---- the only argument

there : (xs : List Slot) (x : ℕ) (s : Slot) → x < length xs → slice_get (slice_set xs x s) x ≡ Some s
there [] x s l = absurd (let none : ⊥ = omega arith in none)
there (z ∷ xs) zero s l = refl
there (z ∷ xs) (suc x) s l = there xs x s (omega arith)

module _ (tables : Tables) (slots : List Slot) (x : ℕ) (v : ℤ) (has : x < length slots) where
  abbrev now : List Slot
  now = slice_set slots x (Has v)

  of_slot : (y : ℕ) → values_at tables now (slot y ∷ []) ≡ pure (number_in (slice_get now y) ∷ [])
  of_slot y = refl

  counted_alone : (e : Linked) → is_slot x e ≡ true → values_at tables now (e ∷ []) ≡ pure (v ∷ [])
  counted_alone (constant n) h = absurd cc
  counted_alone (slot y) h = ap (λ z. values_at tables now (slot z ∷ [])) ((Decides-eqb y x).0 h) ∙ of_slot x ∙ ap (λ o. pure (number_in o ∷ [])) (there slots x (Has v) has)
  counted_alone (cell_at t e c) h = absurd cc
  counted_alone (has_at t e) h = absurd cc
  counted_alone (limit_at t) h = absurd cc
  counted_alone (sum_at t c) h = absurd cc
  counted_alone (minus e) h = absurd cc
  counted_alone (joined op e f) h = absurd cc

  pub counted_only : (place : ℕ) (es : List Linked) → length es ≡ 1 → counts x place es ≡ true → values_at tables now es ≡ pure (v ∷ [])
  counted_only place [] one h = absurd (let none : ⊥ = omega arith in none)
  counted_only zero (e ∷ []) one h = counted_alone e (both (is_slot x e) true h).0
  counted_only (suc place) (e ∷ []) one h = absurd (let wrong : false ≡ true = (both (is_fixed x e) false h).1 in cc)
  counted_only place (e ∷ f ∷ es) one h = absurd (let none : ⊥ = omega arith in none)
