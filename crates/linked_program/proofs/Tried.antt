-- A table's operation is a monoid exactly where trying every element says so.
use Rattle.std.proofs.Common.{◌≡◌, ℕ, zero, suc, ◌<◌, Bool, true, false, ◌==◌, ◌&&◌, refl, sym, rules, arith}
use Rattle.std.proofs.lemmas.Bool.{eqb-true, eqb-false, false_from_ne_true}
use Rattle.monoid_laws.specs.declared.Table.{Table}
use Rattle.monoid_laws.specs.declared.TableAnswer.{TableAnswer}
use Rattle.monoid_laws.specs.declared.TableAnswer.TheVariants.{Monoid, NotIdentity, NotAssociative}
use Rattle.monoid_laws.specs.Kinds.{table_at, IsMonoidTable}
use Rattle.monoid_laws.specs.Tables.{KeepsUnit, Holds, IsAnswer}
use Rattle.linked_program.specs.Monoids.{all_below, keeps_unit, agrees, says_monoid, is_monoid_table}

both_true : (b c : Bool) → b ≡ true → c ≡ true → (b && c) ≡ true
both_true true c e f = f
both_true false c e f = e

left_true : (b c : Bool) → (b && c) ≡ true → b ≡ true
left_true true c e = refl
left_true false c e = e

right_true : (b c : Bool) → (b && c) ≡ true → c ≡ true
right_true true c e = e
right_true false c e = cc

all_below_true : (f : ℕ → Bool) (n : ℕ) → ((a : ℕ) → a < n → f a ≡ true) → all_below f n ≡ true
unfolding all_below
all_below_true f zero h = refl
all_below_true f (suc n) h = both_true (all_below f n) (f n) (all_below_true f n (λ a l. h a (omega (arith, l)))) (h n (omega arith))

at_one : (f : ℕ → Bool) (n a : ℕ) (b : Bool) → (a == n) ≡ b → f n ≡ true → (a < n → f a ≡ true) → a < suc n → f a ≡ true
at_one f n a true e last below l = rw (eqb-true a n e) last
at_one f n a false e last below l = let other = eqb-false a n e in below (omega (arith, l, other))

all_below_at : (f : ℕ → Bool) (n a : ℕ) → all_below f n ≡ true → a < n → f a ≡ true
unfolding all_below
all_below_at f zero a e l = absurd (omega (arith, l))
all_below_at f (suc n) a e l = at_one f n a (a == n) refl (right_true (all_below f n) (f n) e) (all_below_at f n a (left_true (all_below f n) (f n) e)) l

same_number : (a b : ℕ) → a ≡ b → (a == b) ≡ true
same_number a b e = search rules

-- ---- both ways

abbrev unit_kept : Table → Bool
unit_kept t = all_below (keeps_unit t) t.size

abbrev thirds : Table → ℕ → ℕ → Bool
thirds t a b = all_below (agrees t a b) t.size

abbrev seconds : Table → ℕ → Bool
seconds t a = all_below (thirds t a) t.size

kept_true : (t : Table) (a : ℕ) → keeps_unit t a ≡ true → KeepsUnit t a
kept_true t a e = (
  eqb-true (table_at t t.unit a) a (left_true (table_at t t.unit a == a) (table_at t a t.unit == a) e),
  eqb-true (table_at t a t.unit) a (right_true (table_at t t.unit a == a) (table_at t a t.unit == a) e),
)

unit_at : (t : Table) → is_monoid_table t ≡ true → (a : ℕ) → a < t.size → KeepsUnit t a
unit_at t e a l = kept_true t a (all_below_at (keeps_unit t) t.size a (left_true (unit_kept t) (all_below (seconds t) t.size) e) l)

holds_at : (t : Table) → is_monoid_table t ≡ true → (a b c : ℕ) → a < t.size → b < t.size → c < t.size → Holds t a b c
holds_at t e a b c la lb lc =
    let x = all_below_at (seconds t) t.size a (right_true (unit_kept t) (all_below (seconds t) t.size) e) la in
    let y = all_below_at (thirds t a) t.size b x lb in
    eqb-true (table_at t (table_at t a b) c) (table_at t a (table_at t b c)) (all_below_at (agrees t a b) t.size c y lc)

pub monoid_from_true : (t : Table) → is_monoid_table t ≡ true → IsMonoidTable t
monoid_from_true t e = record {
  left_identity = λ a l. (unit_at t e a l).0;
  right_identity = λ a l. (unit_at t e a l).1;
  associative = holds_at t e;
}

pub true_from_monoid : (t : Table) → IsMonoidTable t → is_monoid_table t ≡ true
true_from_monoid t m =
    both_true (unit_kept t) (all_below (seconds t) t.size)
    (all_below_true (keeps_unit t) t.size (λ a l. both_true (table_at t t.unit a == a) (table_at t a t.unit == a) (same_number (table_at t t.unit a) a (m.left_identity a l)) (same_number (table_at t a t.unit) a (m.right_identity a l))))
    (all_below_true (seconds t) t.size (λ a la.
    all_below_true (thirds t a) t.size (λ b lb.
    all_below_true (agrees t a b) t.size (λ c lc. same_number (table_at t (table_at t a b) c) (table_at t a (table_at t b c)) (m.associative a b c la lb lc)))))

pub answer_is : (t : Table) (r : TableAnswer) → IsAnswer t r → says_monoid r ≡ is_monoid_table t
answer_is t Monoid h = sym (true_from_monoid t h)
answer_is t (NotIdentity a) h = sym (false_from_ne_true (is_monoid_table t) (λ e. h.changes (unit_at t e a h.element)))
answer_is t (NotAssociative a b c) h =
    let f = h.1 in
    sym (false_from_ne_true (is_monoid_table t) (λ e. f.rest.last.fails (holds_at t e a b c f.first f.rest.second f.rest.last.third)))
