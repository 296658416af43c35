-- What an evaluation gives and notes, where the program's and the tables' numbers fit.
use Rattle.std.proofs.Common.{length-take, length-drop, ℕ, zero, suc, ◌+◌, ◌<◌, List, [], ◌∷◌, Option, Some, None, Result, Ok, Err, ℤ, pos, negsuc, ◌≡◌, refl, ap, arith, map, true, false, Bool, cond}
use Rattle.std.specs.Prelude.{nat_le, take, length, ◌-◌, slice_get, slice_set, ◌+ℤ◌, int_lt, not, unsigned_abs, ◌&&◌, All}
use Rattle.std.specs.List.{AllByRecursion}
use Rattle.std.specs.Ordering.{int_eq}
use Rattle.std.specs.Str.{bytes_eq}
use Rattle.std.specs.Int.{w64, int_wrapping_add}
use Rattle.std.proofs.lemmas.Bool.{ltb-true}
use Rattle.std.proofs.lemmas.List.Elements.{All-nil, All-cons, All-take, All-drop}
use Rattle.monoid_laws.specs.declared.Kind.{Kind}
use Rattle.monoid_laws.specs.declared.Kind.TheVariants as k
use Rattle.monoid_laws.specs.Worth.{number as the_worth}
use Rattle.monoid_laws.specs.Kinds.{Fits, FitsPair, IsWorth, element_of, names_element, zero_at}
use Rattle.meaning.specs.Tree.{Name, Term, number, name, cell, has as has_row, limit, sum, negate, binary, Red, Tree}
use Rattle.meaning.specs.declared.tree.Operator.{Operator}
use Rattle.meaning.specs.declared.tree.Operator.TheVariants as o
use Rattle.meaning.specs.declared.FaultKind.TheVariants.{DivideByZero, RangeTooLong}
use Rattle.meaning.specs.Tables.{Tables, cell_of, index_of, columns_of, rows_of, above_all, column_total}
use Rattle.meaning.specs.Outcome.{Log, Out, onward, pure, fail}
use Rattle.meaning.specs.Values.{Env, put, or_zero, one_if, value, values, apply, look}
use Rattle.meaning.specs.Statements.{most_iterations, numbered, naming, updating, update_of, reducers, ranged, span, bounds, put_into, fresh}
use Rattle.trail_theory.specs.Order.{Every}
use Rattle.meaning.specs.Fitting.{FitsTerm}
use Rattle.trail_theory.specs.Typed.{IsTyped, TablesFit, kinds_of}
use Rattle.trail_theory.proofs.Places.{every_append}
use Rattle.trail_theory.proofs.FitNumbers.{zero_fits, one_fits, wrapped_fits, added_fits, less_fits, times_fits, opposite_fits, quotient_fits, remainder_fits, range_fits}

-- ---- names' values
abbrev pub FitsHeld : Option ℤ → Type 0
FitsHeld None = Unit {0}
FitsHeld (Some v) = Fits v

abbrev pub FitsEnv : Env → Type 0
FitsEnv env = Every FitsHeld env

held_fits : (o : Option ℤ) → FitsHeld o → Fits (or_zero (Some o))
held_fits None h = zero_fits
held_fits (Some v) h = h

get_fits : (env : Env) (x : ℕ) → FitsEnv env → Fits (or_zero (slice_get env x))
get_fits [] x h = zero_fits
get_fits (o ∷ env) zero h = held_fits o h.0
get_fits (o ∷ env) (suc x) h = get_fits env x h.1

pub set_fits_env : (env : Env) (x : ℕ) (o : Option ℤ) → FitsHeld o → FitsEnv env → FitsEnv (slice_set env x o)
set_fits_env [] x o f h = tt
set_fits_env (p ∷ env) zero o f h = (f, h.1)
set_fits_env (p ∷ env) (suc x) o f h = (h.0, set_fits_env env x o f h.1)

pub put_fits : (env : Env) (x : ℕ) (v : ℤ) → Fits v → FitsEnv env → FitsEnv (put env x v)
put_fits env x v f h = set_fits_env env x (Some v) f h

pub put_into_fits : (x : Option ℕ) (env : Env) (v : ℤ) → Fits v → FitsEnv env → FitsEnv (put_into x env v)
put_into_fits None env v f h = h
put_into_fits (Some x) env v f h = put_fits env x v f h

pub fresh_fits : (names : List Name) (args : List ℤ) → Every Fits args → FitsEnv (fresh names args)
fresh_fits [] args h = tt
fresh_fits (x ∷ names) [] h = (tt, fresh_fits names [] tt)
fresh_fits (x ∷ names) (v ∷ args) h = (h.0, fresh_fits names args h.1)

-- ---- evaluations
abbrev pub Gives : {F A : Type 0} → (A → Type 0) → Result A F → Type 0
Gives P (Ok a) = P a
Gives P (Err e) = Unit {0}

module _ (kinds : List Kind) where
  abbrev pub FitsOut : {F A : Type 0} → (A → Type 0) → Out F A → Type 0
  FitsOut P o = Every (IsTyped kinds) o.log × Gives P o.answer

  fits_onward : {F A B : Type 0} (P : A → Type 0) (R : B → Type 0) (log : Log) (r : Result A F) (f : A → Out F B) → Every (IsTyped kinds) log → Gives P r → ((a : A) → P a → FitsOut R (f a)) → FitsOut R (onward log r f)
  fits_onward P R log (Err e) f h p k = (h, tt)
  fits_onward P R log (Ok a) f h p k = let q = k a p in (every_append (IsTyped kinds) log (f a).log h q.0, q.1)

  fits_cond : {F A : Type 0} (P : A → Type 0) (b : Bool) (x y : Out F A) → FitsOut P x → FitsOut P y → FitsOut P (cond b x y)
  fits_cond P true x y h k = h
  fits_cond P false x y h k = k

  one_if_fits : (b : Bool) → Fits (one_if b)
  one_if_fits true = one_fits
  one_if_fits false = zero_fits

  apply_fits : (op : Operator) (x y : ℤ) → Fits x → Fits y → FitsOut Fits (apply op x y)
  apply_fits o.Add x y f g = (tt, added_fits x y)
  apply_fits o.Subtract x y f g = (tt, less_fits x y)
  apply_fits o.Multiply x y f g = (tt, times_fits x y)
  apply_fits o.Divide x y f g = fits_cond Fits (int_eq y (pos 0)) (fail DivideByZero) (pure _) (tt, tt) (tt, quotient_fits x y f)
  apply_fits o.Remainder x y f g = fits_cond Fits (int_eq y (pos 0)) (fail DivideByZero) (pure _) (tt, tt) (tt, remainder_fits x y f)
  apply_fits o.Equal x y f g = (tt, one_if_fits (int_eq x y))
  apply_fits o.Unequal x y f g = (tt, one_if_fits (not (int_eq x y)))
  apply_fits o.Less x y f g = (tt, one_if_fits (int_lt x y))
  apply_fits o.AtMost x y f g = (tt, one_if_fits (not (int_lt y x)))
  apply_fits o.Greater x y f g = (tt, one_if_fits (int_lt y x))
  apply_fits o.AtLeast x y f g = (tt, one_if_fits (not (int_lt x y)))

  look_fits : (t : Name) (row : ℤ) (c : Name) (v : Option ℤ) → FitsHeld v → FitsOut Fits (look t row c v)
  look_fits t row c None h = (tt, tt)
  look_fits t row c (Some v) h = ((tt, tt), h)

  held_cell : (o : Option ℤ) → ((v : ℤ) → o ≡ Some v → Fits v) → FitsHeld o
  held_cell None h = tt
  held_cell (Some v) h = h v refl

  either_fits : (b : Bool) (x y : ℤ) → Fits x → Fits y → Fits (cond b x y)
  either_fits true x y f g = f
  either_fits false x y f g = g

  above_fits : (top : ℤ) (rows : List (ℤ × List ℤ)) → Fits top → Fits (above_all top rows)
  above_fits top [] h = h
  above_fits top ((m, vs) ∷ rows) h = above_fits (cond (int_lt m top) top (int_wrapping_add w64 m (pos 1))) rows (either_fits (int_lt m top) top (int_wrapping_add w64 m (pos 1)) h (added_fits m (pos 1)))

  module _ (tables : Tables) (held : TablesFit tables) where
    pub value_fits : (env : Env) (e : Term) → FitsEnv env → FitsTerm e → FitsOut Fits (value tables env e)
    value_fits env (number n) h f = (tt, f)
    value_fits env (name x) h f = (tt, get_fits env x h)
    value_fits env (cell t e c) h f =
        let v = value_fits env e h f in
        fits_onward Fits Fits _ (value tables env e).answer _ v.0 v.1 (λ row g. look_fits t row c (cell_of tables t row c) (held_cell (cell_of tables t row c) (held t row c)))
    value_fits env (has_row t e) h f =
        let v = value_fits env e h f in
        fits_onward Fits Fits _ (value tables env e).answer _ v.0 v.1 (λ row g. ((tt, tt), one_if_fits _))
    value_fits env (limit t) h f = ((tt, tt), above_fits (pos 0) (rows_of tables t) zero_fits)
    value_fits env (sum t c) h f = ((tt, tt), wrapped_fits (column_total (index_of (columns_of tables t) c) (rows_of tables t)))
    value_fits env (negate e) h f =
        let v = value_fits env e h f in
        fits_onward Fits Fits _ (value tables env e).answer _ v.0 v.1 (λ x g. (tt, opposite_fits x))
    value_fits env (binary op e e') h f =
        let v = value_fits env e h f.0 in
        fits_onward Fits Fits _ (value tables env e).answer _ v.0 v.1 (λ x g.
        let w = value_fits env e' h f.1 in
        fits_onward Fits Fits _ (value tables env e').answer _ w.0 w.1 (λ y g'. apply_fits op x y g g'))

    pub values_fits : (env : Env) (es : List Term) → FitsEnv env → AllByRecursion FitsTerm es → FitsOut (Every Fits) (values tables env es)
    values_fits env [] h f = (tt, tt)
    values_fits env (e ∷ es) h f =
        let v = value_fits env e h f.0 in
        fits_onward Fits (Every Fits) _ (value tables env e).answer _ v.0 v.1 (λ x g.
        let w = values_fits env es h f.1 in
        fits_onward (Every Fits) (Every Fits) _ (values tables env es).answer _ w.0 w.1 (λ y g'. (tt, (g, g'))))

    -- a loop's first number, and how many numbers from it on fit
    abbrev pub FitsRange : ℤ × ℕ → Type 0
    FitsRange range = Fits range.0 × ((i : ℕ) → i < range.1 → Fits (range.0 +ℤ pos i))

    ranged_fits : (n : ℕ) → FitsOut (λ m. m ≡ n) (ranged n)
    ranged_fits n = fits_cond (λ m. m ≡ n) (nat_le n most_iterations) (pure n) (fail RangeTooLong) (tt, refl) (tt, tt)

    pub bounds_fits : (env : Env) (e e' : Term) → FitsEnv env → FitsTerm e → FitsTerm e' → FitsOut FitsRange (bounds tables env e e')
    bounds_fits env e e' h f f' =
        let v = value_fits env e h f in
        fits_onward Fits FitsRange _ (value tables env e).answer _ v.0 v.1 (λ low g.
        let w = value_fits env e' h f' in
        fits_onward Fits FitsRange _ (value tables env e').answer _ w.0 w.1 (λ high g'.
        let r = ranged_fits (span low high) in
        fits_onward (λ m. m ≡ span low high) FitsRange _ (ranged (span low high)).answer _ r.0 r.1 (λ n q. (tt, (g, λ i l. range_fits low high i (rw q at l) g g')))))

-- ---- updates

all_of : {A : Type 0} (P : A → Type 0) (xs : List A) → Every P xs → All P xs
all_of P [] h = All-nil P
all_of P (x ∷ xs) h = All-cons P x xs h.0 (all_of P xs h.1)

zero_at_fits : (vs : List ℤ) (i : ℕ) → Every Fits vs → Fits (zero_at vs i)
zero_at_fits [] i h = zero_fits
zero_at_fits (v ∷ vs) zero h = h.0
zero_at_fits (v ∷ vs) (suc i) h = zero_at_fits vs i h.1

number_worth : (z : ℤ) → Fits z → (the_worth z ≡ the_worth z) × Fits z
number_worth z f = (refl, f)

and_right : (a b : Bool) → a && b ≡ true → b ≡ true
and_right true b e = e
and_right false b e = absurd cc

element_below : (z : ℤ) (n : ℕ) → not (int_lt z (pos 0)) && int_lt z (pos n) ≡ true → unsigned_abs z < n
element_below (pos m) n e = let l : int_lt (pos m) (pos n) ≡ true = and_right _ (int_lt (pos m) (pos n)) e in ltb-true m n l
element_below (negsuc m) n e = absurd cc

-- the element that an update names is a value of the kind
pub element_right : (c : Kind) (vs : List ℤ) → Every Fits vs → names_element c vs ≡ true → IsWorth c (element_of c vs)
element_right k.Add vs h e = number_worth _ (zero_at_fits vs 0 h)
element_right k.Mul vs h e = number_worth _ (zero_at_fits vs 0 h)
element_right k.Min vs h e = number_worth _ (zero_at_fits vs 0 h)
element_right k.Max vs h e = number_worth _ (zero_at_fits vs 0 h)
element_right k.And vs h e = number_worth _ (zero_at_fits vs 0 h)
element_right k.Or vs h e = number_worth _ (zero_at_fits vs 0 h)
element_right k.Xor vs h e = number_worth _ (zero_at_fits vs 0 h)
element_right k.List vs h e = (refl, All-take Fits 1 vs (all_of Fits vs h))
element_right (k.First n) vs h e = (refl, All-take Fits n (take 1 vs) (All-take Fits 1 vs (all_of Fits vs h)), omega (arith, length-take n (take 1 vs)))
element_right (k.Last n) vs h e =
    let j : ℕ = length (take 1 vs) - n in
    (refl, All-drop Fits j (take 1 vs) (All-take Fits 1 vs (all_of Fits vs h)), omega (arith, length-drop j (take 1 vs)))
element_right k.Argmax vs h e = (refl, (zero_at_fits vs 0 h, zero_at_fits vs 1 h))
element_right k.Affine vs h e = (refl, zero_at_fits vs 0 h, zero_at_fits vs 1 h)
element_right k.Hist vs h e = (refl, (tt, tt), All-cons FitsPair _ [] (zero_at_fits vs 0 h, zero_at_fits vs 1 h) (All-nil FitsPair))
element_right (k.Table t) vs h e = (refl, element_below (zero_at vs 0) t.size e)

-- the number of a reducer is its place
record IsAt (n : ℕ) (reds : List Red) (m : ℕ) (kind : Kind) : Type 0 where
  place : ℕ
  counted : m ≡ n + place
  is : slice_get (map (λ r. r.kind) reds) place ≡ Some kind

abbrev pair_of : ℕ × Red → Option (ℕ × Red) → ℕ × Red
pair_of d None = d
pair_of d (Some p) = p

by_name : (n : ℕ) (x : Red) (reds : List Red) (r : Name) (m : ℕ) (red : Red) (b : Bool) → (numbered (n + 1) reds r ≡ Some (m, red) → IsAt (n + 1) reds m red.kind) → cond b (Some (n, x)) (numbered (n + 1) reds r) ≡ Some (m, red) → IsAt n (x ∷ reds) m red.kind
by_name n x reds r m red true later q =
    let p : (n, x) ≡ (m, red) = ap (pair_of (n, x)) q in
    let a : n ≡ m = ap (λ z. z.0) p in
    let c : x ≡ red = ap (λ z. z.1) p in
    record { place = 0; counted = omega (arith, a); is = ap (λ z. Some z.kind) c }
by_name n x reds r m red false later q =
    let h = later q in
    let c : m ≡ n + 1 + h.place = h.counted in
    record { place = suc h.place; counted = omega (arith, c); is = h.is }

numbered_at : (n : ℕ) (reds : List Red) (r : Name) (m : ℕ) (red : Red) → numbered n reds r ≡ Some (m, red) → IsAt n reds m red.kind
numbered_at n [] r m red e = absurd cc
numbered_at n (x ∷ reds) r m red e = by_name n x reds r m red (bytes_eq x.called r) (λ q. numbered_at (n + 1) reds r m red q) e

module _ (program : Tree) (tables : Tables) (held : TablesFit tables) where
  abbrev Done : Unit {0} → Type 0
  Done u = Unit {0}

  naming_fits : (n : ℕ) (kind : Kind) (vs : List ℤ) (b : Bool) → slice_get (kinds_of program) n ≡ Some kind → (b ≡ true → IsWorth kind (element_of kind vs)) → FitsOut (kinds_of program) Done (naming n kind vs b)
  naming_fits n kind vs false e h = (tt, tt)
  naming_fits n kind vs true e h = (((e, h refl), tt), tt)

  updating_fits : (o : Option (ℕ × Red)) (vs : List ℤ) → Every Fits vs → ((n : ℕ) (red : Red) → o ≡ Some (n, red) → slice_get (kinds_of program) n ≡ Some red.kind) → FitsOut (kinds_of program) Done (updating o vs)
  updating_fits None vs h e = (tt, tt)
  updating_fits (Some (n, red)) vs h e = naming_fits n red.kind vs (names_element red.kind vs) (e n red refl) (λ q. element_right red.kind vs h q)

  reducer_at : (r : Name) (n : ℕ) (red : Red) → numbered 0 (reducers program) r ≡ Some (n, red) → slice_get (kinds_of program) n ≡ Some red.kind
  reducer_at r n red e =
      let a = numbered_at 0 (reducers program) r n red e in
      let c : n ≡ 0 + a.place = a.counted in
      let q : n ≡ a.place = omega (arith, c) in
      rw q a.is

  pub update_fits : (env : Env) (r : Name) (es : List Term) → FitsEnv env → AllByRecursion FitsTerm es → FitsOut (kinds_of program) Done (update_of tables (reducers program) env r es)
  update_fits env r es h f =
      let v = values_fits (kinds_of program) tables held env es h f in
      fits_onward (kinds_of program) (Every Fits) Done _ (values tables env es).answer _ v.0 v.1 (λ vs g. updating_fits (numbered 0 (reducers program) r) vs g (reducer_at r))
