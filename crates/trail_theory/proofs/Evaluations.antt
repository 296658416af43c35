-- What an evaluation notes.
use Rattle.std.proofs.Common.{ℕ, List, [], ◌∷◌, Option, Some, None, Result, Ok, Err, ℤ, pos, true, false, Bool, cond}
use Rattle.std.specs.Prelude.{nat_le}
use Rattle.std.specs.Ordering.{int_eq}
use Rattle.meaning.specs.Tree.{Name, Term, number, name, cell, has as has_row, limit, sum, negate, binary, Red}
use Rattle.meaning.specs.declared.tree.Operator.{Operator}
use Rattle.monoid_laws.specs.declared.Kind.{Kind}
use Rattle.meaning.specs.declared.FaultKind.TheVariants.{DivideByZero, RangeTooLong}
use Rattle.meaning.specs.Tables.{Tables, cell_of}
use Rattle.monoid_laws.specs.Kinds.{names_element}
use Rattle.meaning.specs.Outcome.{Log, Event, Reads, Enters, Updates, Reuses, Begins, Syncs, Leaves, Faults, Marks, Spawns, Out, onward, pure, fail}
use Rattle.meaning.specs.Values.{Env, value, values, apply, look}
use Rattle.meaning.specs.Statements.{most_iterations, numbered, naming, updating, update_of, ranged, span, bounds}
use Rattle.meaning.specs.SmallStep.{Start}
use Rattle.trail_theory.specs.Order.{Every}
use Rattle.trail_theory.specs.TaskFits.{SyncInside}
use Rattle.trail_theory.proofs.Places.{every_append}
use Rattle.meaning.specs.declared.tree.Operator.TheVariants as o

-- what evaluations note
abbrev pub Told : Event → Type 0
Told (Reads r) = Unit {0}
Told (Updates n kind w) = Unit {0}
Told (Enters f args depth) = ⊥
Told (Reuses f args ws) = ⊥
Told (Begins n depth) = ⊥
Told (Syncs n) = ⊥
Told (Spawns n) = ⊥
Told (Leaves n v) = ⊥
Told (Faults k) = ⊥
Told (Marks f args b) = ⊥

pub told_inside : (m : Start) (es : Log) → Every Told es → Every (SyncInside m) es
told_inside m [] h = tt
told_inside m (Reads r ∷ es) h = (tt, told_inside m es h.1)
told_inside m (Updates n kind w ∷ es) h = (tt, told_inside m es h.1)
told_inside m (Enters f args depth ∷ es) h = absurd h.0
told_inside m (Reuses f args ws ∷ es) h = absurd h.0
told_inside m (Begins n depth ∷ es) h = absurd h.0
told_inside m (Syncs n ∷ es) h = absurd h.0
told_inside m (Spawns n ∷ es) h = absurd h.0
told_inside m (Leaves n v ∷ es) h = absurd h.0
told_inside m (Faults k ∷ es) h = absurd h.0
told_inside m (Marks f args b ∷ es) h = absurd h.0

-- ---- what an evaluation notes stands nowhere
abbrev pub Calm : {F A : Type 0} → Out F A → Type 0
Calm o = Every Told o.log

calm_onward : {F A B : Type 0} (log : Log) (r : Result A F) (f : A → Out F B) → Every Told log → ((a : A) → Calm (f a)) → Calm (onward log r f)
calm_onward log (Err e) f h k = h
calm_onward log (Ok a) f h k = every_append Told log (f a).log h (k a)

calm_cond : {F A : Type 0} (b : Bool) (x y : Out F A) → Calm x → Calm y → Calm (cond b x y)
calm_cond true x y h k = h
calm_cond false x y h k = k

calm_apply : (op : Operator) (x y : ℤ) → Calm (apply op x y)
calm_apply o.Add x y = tt
calm_apply o.Subtract x y = tt
calm_apply o.Multiply x y = tt
calm_apply o.Divide x y = calm_cond (int_eq y (pos 0)) (fail DivideByZero) (pure _) tt tt
calm_apply o.Remainder x y = calm_cond (int_eq y (pos 0)) (fail DivideByZero) (pure _) tt tt
calm_apply o.Equal x y = tt
calm_apply o.Unequal x y = tt
calm_apply o.Less x y = tt
calm_apply o.AtMost x y = tt
calm_apply o.Greater x y = tt
calm_apply o.AtLeast x y = tt

calm_look : (t : Name) (row : ℤ) (c : Name) (v : Option ℤ) → Calm (look t row c v)
calm_look t row c None = tt
calm_look t row c (Some v) = (tt, tt)

pub calm_value : (tables : Tables) (env : Env) (e : Term) → Calm (value tables env e)
calm_value tables env (number n) = tt
calm_value tables env (name x) = tt
calm_value tables env (cell t e c) = calm_onward _ (value tables env e).answer _ (calm_value tables env e) (λ row. calm_look t row c (cell_of tables t row c))
calm_value tables env (has_row t e) = calm_onward _ (value tables env e).answer _ (calm_value tables env e) (λ row. (tt, tt))
calm_value tables env (limit t) = (tt, tt)
calm_value tables env (sum t c) = (tt, tt)
calm_value tables env (negate e) = calm_onward _ (value tables env e).answer _ (calm_value tables env e) (λ row. tt)
calm_value tables env (binary op e f) = calm_onward _ (value tables env e).answer _ (calm_value tables env e) (λ x. calm_onward _ (value tables env f).answer _ (calm_value tables env f) (λ y. calm_apply op x y))

pub calm_values : (tables : Tables) (env : Env) (es : List Term) → Calm (values tables env es)
calm_values tables env [] = tt
calm_values tables env (e ∷ es) = calm_onward _ (value tables env e).answer _ (calm_value tables env e) (λ x. calm_onward _ (values tables env es).answer _ (calm_values tables env es) (λ y. tt))

calm_naming : (n : ℕ) (kind : Kind) (vs : List ℤ) (b : Bool) → Calm (naming n kind vs b)
calm_naming n kind vs false = tt
calm_naming n kind vs true = (tt, tt)

calm_updating : (r : Option (ℕ × Red)) (vs : List ℤ) → Calm (updating r vs)
calm_updating None vs = tt
calm_updating (Some (n, r)) vs = calm_naming n r.kind vs (names_element r.kind vs)

pub calm_update : (tables : Tables) (reds : List Red) (env : Env) (r : Name) (es : List Term) → Calm (update_of tables reds env r es)
calm_update tables reds env r es = calm_onward _ (values tables env es).answer _ (calm_values tables env es) (λ vs. calm_updating (numbered 0 reds r) vs)

pub calm_bounds : (tables : Tables) (env : Env) (e f : Term) → Calm (bounds tables env e f)
calm_bounds tables env e f = calm_onward _ (value tables env e).answer _ (calm_value tables env e) (λ low. calm_onward _ (value tables env f).answer _ (calm_value tables env f) (λ high. calm_onward _ (ranged (span low high)).answer _ (calm_cond (nat_le (span low high) most_iterations) (pure (span low high)) (fail RangeTooLong) tt tt) (λ n. tt)))
