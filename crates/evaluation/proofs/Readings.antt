-- What evaluations of the definitions note: readings alone.
use Rattle.std.proofs.Common.{◌≡◌, ℕ, ℤ, pos, Bool, true, false, cond, List, [], ◌∷◌, ◌++◌, map, Option, Some, None, Result, Ok, Err, refl, sym, ◌∙◌, ap}
use Rattle.std.specs.Prelude.{nat_le}
use Rattle.std.specs.Ordering.{int_eq}
use Rattle.std.proofs.lemmas.List.{map-append}
use Rattle.meaning.specs.declared.tree.Operator.{Operator}
use Rattle.meaning.specs.declared.tree.Operator.TheVariants as o
use Rattle.meaning.specs.Tree.{Name, Term, number, name, cell, has, limit, sum, negate, binary}
use Rattle.meaning.specs.declared.FaultKind.{FaultKind}
use Rattle.meaning.specs.Tables.{Tables, cell_of}
use Rattle.meaning.specs.Outcome.{Log, Out, Reads, Enters, Updates, Reuses, Begins, Syncs, Leaves, Marks, Faults, Spawns, onward, pure, fail}
use Rattle.meaning.specs.Values.{Env, value, values, apply, look}
use Rattle.meaning.specs.Statements.{most_iterations, Job, span, ranged, bounds, turn_values}
use Rattle.evaluation.specs.Numbers.{readings, OnlyReads}

pub readings-append : (l m : Log) → readings (l ++ m) ≡ readings l ++ readings m
readings-append [] m = refl
readings-append (Reads r ∷ l) m = ap (λ rs. r ∷ rs) (readings-append l m)
readings-append (Enters f args d ∷ l) m = readings-append l m
readings-append (Updates n kind w ∷ l) m = readings-append l m
readings-append (Reuses f args ws ∷ l) m = readings-append l m
readings-append (Begins p d ∷ l) m = readings-append l m
readings-append (Syncs p ∷ l) m = readings-append l m
readings-append (Leaves p v ∷ l) m = readings-append l m
readings-append (Marks f args b ∷ l) m = readings-append l m
readings-append (Faults f ∷ l) m = readings-append l m
readings-append (Spawns p ∷ l) m = readings-append l m

both : (l m : Log) → OnlyReads l → OnlyReads m → OnlyReads (l ++ m)
both l m h k =
    ap (λ w. w ++ m) h ∙ ap (λ w. map Reads (readings l) ++ w) k ∙ sym (map-append Reads (readings l) (readings m)) ∙ ap (map Reads) (sym (readings-append l m))

then_reads : {A B : Type 0} (log : Log) (r : Result A FaultKind) (f : A → Out FaultKind B) → OnlyReads log → ((a : A) → OnlyReads (f a).log) → OnlyReads (onward log r f).log
then_reads log (Ok a) f h k = both log (f a).log h (k a)
then_reads log (Err e) f h k = h

unless : {A : Type 0} (b : Bool) (k : FaultKind) (a : A) → (cond b (fail k) (pure a)).log ≡ []
unless true k a = refl
unless false k a = refl

provided : {A : Type 0} (b : Bool) (k : FaultKind) (a : A) → OnlyReads (cond b (pure a) (fail k)).log
provided true k a = refl
provided false k a = refl

pub apply_reads_nothing : (op : Operator) (x y : ℤ) → (apply op x y).log ≡ []
apply_reads_nothing o.Add x y = refl
apply_reads_nothing o.Subtract x y = refl
apply_reads_nothing o.Multiply x y = refl
apply_reads_nothing o.Divide x y = unless (int_eq y (pos 0)) _ _
apply_reads_nothing o.Remainder x y = unless (int_eq y (pos 0)) _ _
apply_reads_nothing o.Equal x y = refl
apply_reads_nothing o.Unequal x y = refl
apply_reads_nothing o.Less x y = refl
apply_reads_nothing o.AtMost x y = refl
apply_reads_nothing o.Greater x y = refl
apply_reads_nothing o.AtLeast x y = refl

nothing_read : (log : Log) → log ≡ [] → OnlyReads log
nothing_read log e = e ∙ ap (λ l. map Reads (readings l)) (sym e)

look_reads : (t : Name) (row : ℤ) (c : Name) (v : Option ℤ) → OnlyReads (look t row c v).log
look_reads t row c None = refl
look_reads t row c (Some v) = refl

module _ (tables : Tables) (env : Env) where
  pub value_reads : (e : Term) → OnlyReads (value tables env e).log
  value_reads (number n) = refl
  value_reads (name x) = refl
  value_reads (cell t e c) = then_reads (value tables env e).log (value tables env e).answer _ (value_reads e) (λ row. look_reads t row c (cell_of tables t row c))
  value_reads (has t e) = then_reads (value tables env e).log (value tables env e).answer _ (value_reads e) (λ row. refl)
  value_reads (limit t) = refl
  value_reads (sum t c) = refl
  value_reads (negate e) = then_reads (value tables env e).log (value tables env e).answer _ (value_reads e) (λ x. refl)
  value_reads (binary op e f) =
      then_reads (value tables env e).log (value tables env e).answer _ (value_reads e)
      (λ x. then_reads (value tables env f).log (value tables env f).answer _ (value_reads f) (λ y. nothing_read (apply op x y).log (apply_reads_nothing op x y)))

  pub values_read : (es : List Term) → OnlyReads (values tables env es).log
  values_read [] = refl
  values_read (e ∷ es) =
      then_reads (value tables env e).log (value tables env e).answer _ (value_reads e)
      (λ v. then_reads (values tables env es).log (values tables env es).answer _ (values_read es) (λ vs. refl))

  pub bounds_read : (e f : Term) → OnlyReads (bounds tables env e f).log
  bounds_read e f =
      then_reads (value tables env e).log (value tables env e).answer _ (value_reads e)
      (λ low. then_reads (value tables env f).log (value tables env f).answer _ (value_reads f)
      (λ high. then_reads (ranged (span low high)).log (ranged (span low high)).answer _ (provided (nat_le (span low high) most_iterations) _ _) (λ n. refl)))

pub turn_reads : (tables : Tables) (job : Job) (i : ℕ) → OnlyReads (turn_values tables job i).log
turn_reads tables job i = values_read tables _ job.args
