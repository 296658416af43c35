-- What follows for results from the pieces of a run.
use Rattle.std.proofs.Common.{◌≡◌, ℕ, List, [], ◌∷◌, ◌++◌, ℤ, pos, Bool, true, false, cond, Option, Some, None, Result, Ok, Err, refl, ap, sym, ◌∙◌}
use Rattle.std.specs.Prelude.{slice_get, ◌+ℤ◌, nat_le}
use Rattle.std.specs.Ordering.{int_eq}
use Rattle.meaning.specs.declared.tree.Operator.{Operator}
use Rattle.meaning.specs.declared.tree.Operator.TheVariants as o
use Rattle.monoid_laws.specs.declared.Kind.{Kind}
use Rattle.meaning.specs.Tree.{Name, Term, number, name, cell, has, limit, sum, negate, binary, Red, Tree}
use Rattle.meaning.specs.declared.FaultKind.{FaultKind}
use Rattle.meaning.specs.declared.FaultKind.TheVariants.{DivideByZero, RangeTooLong}
use Rattle.meaning.specs.Tables.{Tables, cell_of}
use Rattle.meaning.specs.Outcome.{Log, Event, Reads, Enters, Updates, Reuses, Begins, Syncs, Leaves, Faults, Marks, Spawns, combined, Accumulators, after, updated, Out, Fault, Site, onward, pure, fail}
use Rattle.meaning.specs.Outcome as outcome
use Rattle.meaning.specs.Run.{Run, ◌>>=◌, placed, at}
use Rattle.meaning.specs.Values.{Env, put, value, values, apply, look}
use Rattle.meaning.specs.Statements.{most_iterations, span, ranged, bounds, Job, turn_values}
use Rattle.monoid_laws.specs.Kinds.{names_element}
use Rattle.meaning.specs.Statements.{procedure_of, numbered, naming, updating, update_of}
use Rattle.meaning.specs.Records.{Key, is_memo}
use Rattle.serial_oracle.specs.Results.{Summary, with_worths, with_executed, with_reused, through, seen, results}

pub after-append : (l m : Log) (acc : Accumulators) → after (l ++ m) acc ≡ after m (after l acc)
after-append [] m acc = refl
after-append (Reads r ∷ l) m acc = after-append l m acc
after-append (Enters f args d ∷ l) m acc = after-append l m acc
after-append (Reuses f args ws ∷ l) m acc = after-append l m (combined acc ws)
after-append (Begins p d ∷ l) m acc = after-append l m acc
after-append (Syncs p ∷ l) m acc = after-append l m acc
after-append (Leaves p v ∷ l) m acc = after-append l m acc
after-append (Marks f args b ∷ l) m acc = after-append l m acc
after-append (Faults f ∷ l) m acc = after-append l m acc
after-append (Spawns p ∷ l) m acc = after-append l m acc
after-append (Updates n kind w ∷ l) m acc = after-append l m (updated acc n kind w (slice_get acc n))

pub through-append : (program : Tree) (l m : Log) (now : Summary) → through program (l ++ m) now ≡ through program m (through program l now)
through-append program [] m now = refl
through-append program (Reads r ∷ l) m now = through-append program l m now
through-append program (Enters f args d ∷ l) m now = through-append program l m (cond (is_memo (procedure_of program f)) (with_executed now (f, args)) now)
through-append program (Reuses f args ws ∷ l) m now = through-append program l m (with_reused now ws (f, args))
through-append program (Begins p d ∷ l) m now = through-append program l m now
through-append program (Syncs p ∷ l) m now = through-append program l m now
through-append program (Leaves p v ∷ l) m now = through-append program l m now
through-append program (Marks f args b ∷ l) m now = through-append program l m now
through-append program (Faults f ∷ l) m now = through-append program l m now
through-append program (Spawns p ∷ l) m now = through-append program l m now
through-append program (Updates n kind w ∷ l) m now = through-append program l m (with_worths now (updated now.worths n kind w (slice_get now.worths n)))

worths_of_entry : (b : Bool) (now : Summary) (key : Key) → (cond b (with_executed now key) now).worths ≡ now.worths
worths_of_entry true now key = refl
worths_of_entry false now key = refl

-- the values of the reducers are those after the log
pub through_worths : (program : Tree) (l : Log) (now : Summary) → (through program l now).worths ≡ after l now.worths
through_worths program [] now = refl
through_worths program (Reads r ∷ l) now = through_worths program l now
through_worths program (Enters f args d ∷ l) now = through_worths program l (cond (is_memo (procedure_of program f)) (with_executed now (f, args)) now) ∙ ap (after l) (worths_of_entry (is_memo (procedure_of program f)) now (f, args))
through_worths program (Reuses f args ws ∷ l) now = through_worths program l (with_reused now ws (f, args))
through_worths program (Begins p d ∷ l) now = through_worths program l now
through_worths program (Syncs p ∷ l) now = through_worths program l now
through_worths program (Leaves p v ∷ l) now = through_worths program l now
through_worths program (Marks f args b ∷ l) now = through_worths program l now
through_worths program (Faults f ∷ l) now = through_worths program l now
through_worths program (Spawns p ∷ l) now = through_worths program l now
through_worths program (Updates n kind w ∷ l) now = through_worths program l (with_worths now (updated now.worths n kind w (slice_get now.worths n)))

-- the rest of a run, from the results of its first piece
abbrev pub next : {A B : Type 0} → Tree → Result A Fault × Summary → (A → Run B) → Result B Fault × Summary
next program (Ok a, now) f = results program (f a) now
next program (Err e, now) f = (Err e, now)

onward_results : {A B : Type 0} (program : Tree) (log : Log) (r : Result A Fault) (now : Summary) (f : A → Run B) → seen program now (onward log r (λ a. f a (after log now.worths))) ≡ next program (r, through program log now) f
onward_results program log (Err e) now f = refl
onward_results program log (Ok a) now f =
    ap (λ x. ((f a (after log now.worths)).answer, x)) (through-append program log (f a (after log now.worths)).log now)
    ∙ ap (λ w. seen program (through program log now) (f a w)) (sym (through_worths program log now))

pub bind_results : {A B : Type 0} (program : Tree) (m : Run A) (f : A → Run B) (now : Summary) → results program (m >>= f) now ≡ next program (results program m now) f
bind_results program m f now = onward_results program (m now.worths).log (m now.worths).answer now f

module _ (program : Tree) where
  -- an evaluation changes nothing
  abbrev pub Quiet : Log → Type 0
  Quiet log = (now : Summary) → through program log now ≡ now

  onward_quiet : {F A B : Type 0} (log : Log) (r : Result A F) (f : A → Out F B) → Quiet log → ((a : A) → Quiet (f a).log) → Quiet (onward log r f).log
  onward_quiet log (Err e) f h k now = h now
  onward_quiet log (Ok a) f h k now = through-append program log (f a).log now ∙ ap (through program (f a).log) (h now) ∙ k a now

  cond_quiet : (b : Bool) (x y : Out FaultKind ℤ) → Quiet x.log → Quiet y.log → Quiet (cond b x y).log
  cond_quiet true x y h k = h
  cond_quiet false x y h k = k

  apply_quiet : (op : Operator) (x y : ℤ) → Quiet (apply op x y).log
  apply_quiet o.Add x y now = refl
  apply_quiet o.Subtract x y now = refl
  apply_quiet o.Multiply x y now = refl
  apply_quiet o.Divide x y now = cond_quiet (int_eq y (pos 0)) (fail DivideByZero) (pure _) (λ a. refl) (λ a. refl) now
  apply_quiet o.Remainder x y now = cond_quiet (int_eq y (pos 0)) (fail DivideByZero) (pure _) (λ a. refl) (λ a. refl) now
  apply_quiet o.Equal x y now = refl
  apply_quiet o.Unequal x y now = refl
  apply_quiet o.Less x y now = refl
  apply_quiet o.AtMost x y now = refl
  apply_quiet o.Greater x y now = refl
  apply_quiet o.AtLeast x y now = refl

  look_quiet : (t : Name) (row : ℤ) (c : Name) (v : Option ℤ) → Quiet (look t row c v).log
  look_quiet t row c None now = refl
  look_quiet t row c (Some v) now = refl

  pub value_quiet : (tables : Tables) (env : Env) (e : Term) → Quiet (value tables env e).log
  value_quiet tables env (number n) = λ now. refl
  value_quiet tables env (name x) = λ now. refl
  value_quiet tables env (cell t e c) = onward_quiet _ (value tables env e).answer _ (value_quiet tables env e) (λ row. look_quiet t row c (cell_of tables t row c))
  value_quiet tables env (has t e) = onward_quiet _ (value tables env e).answer _ (value_quiet tables env e) (λ row acc. refl)
  value_quiet tables env (limit t) = λ now. refl
  value_quiet tables env (sum t c) = λ now. refl
  value_quiet tables env (negate e) = onward_quiet _ (value tables env e).answer _ (value_quiet tables env e) (λ row acc. refl)
  value_quiet tables env (binary op e f) = onward_quiet _ (value tables env e).answer _ (value_quiet tables env e) (λ x. onward_quiet _ (value tables env f).answer _ (value_quiet tables env f) (λ y. apply_quiet op x y))

  pub values_quiet : (tables : Tables) (env : Env) (es : List Term) → Quiet (values tables env es).log
  values_quiet tables env [] = λ now. refl
  values_quiet tables env (e ∷ es) = onward_quiet _ (value tables env e).answer _ (value_quiet tables env e) (λ x. onward_quiet _ (values tables env es).answer _ (values_quiet tables env es) (λ y acc. refl))

  -- the results of an evaluation at a statement
  pub value_results : (tables : Tables) (env : Env) (e : Term) (site : Site) (now : Summary) → results program (at site (value tables env e)) now ≡ (placed site (value tables env e).answer, now)
  value_results tables env e site now = ap (λ x. (placed site (value tables env e).answer, x)) (value_quiet tables env e now)

  pub values_results : (tables : Tables) (env : Env) (es : List Term) (site : Site) (now : Summary) → results program (at site (values tables env es)) now ≡ (placed site (values tables env es).answer, now)
  values_results tables env es site now = ap (λ x. (placed site (values tables env es).answer, x)) (values_quiet tables env es now)

  ranged_quiet : (n : ℕ) (b : Bool) (kind : FaultKind) → Quiet (cond b (outcome.pure n) (outcome.fail kind)).log
  ranged_quiet n true kind now = refl
  ranged_quiet n false kind now = refl

  bounds_quiet : (tables : Tables) (env : Env) (e f : Term) → Quiet (bounds tables env e f).log
  bounds_quiet tables env e f =
      onward_quiet _ (value tables env e).answer _ (value_quiet tables env e) (λ low.
      onward_quiet _ (value tables env f).answer _ (value_quiet tables env f) (λ high.
      onward_quiet _ (ranged (span low high)).answer _ (ranged_quiet (span low high) (nat_le (span low high) most_iterations) RangeTooLong) (λ n acc. refl)))

  pub bounds_results : (tables : Tables) (env : Env) (e f : Term) (site : Site) (now : Summary) → results program (at site (bounds tables env e f)) now ≡ (placed site (bounds tables env e f).answer, now)
  bounds_results tables env e f site now = ap (λ x. (placed site (bounds tables env e f).answer, x)) (bounds_quiet tables env e f now)

  pub turn_quiet : (tables : Tables) (job : Job) (i : ℕ) (now : Summary) → through program (turn_values tables job i).log now ≡ now
  turn_quiet tables job i now = values_quiet tables (put job.env job.variable (job.low +ℤ pos i)) job.args now

  -- what changes nothing changes no values, and an update changes these alone
  pub still : (log : Log) → Quiet log → (acc : Accumulators) → after log acc ≡ acc
  still log h acc = let now : Summary = record { worths = acc; executed = []; reused = [] } in sym (through_worths program log now) ∙ ap (λ x. x.worths) (h now)

  abbrev Revalues : Log → Type 0
  Revalues log = (now : Summary) → through program log now ≡ with_worths now (after log now.worths)

  onward_revalues : {F A B : Type 0} (log : Log) (r : Result A F) (f : A → Out F B) → Quiet log → ((a : A) → Revalues (f a).log) → Revalues (onward log r f).log
  onward_revalues log (Err e) f h k now = h now ∙ ap (with_worths now) (sym (still log h now.worths))
  onward_revalues log (Ok a) f h k now =
      through-append program log (f a).log now ∙ ap (through program (f a).log) (h now) ∙ k a now
      ∙ ap (with_worths now) (sym (after-append log (f a).log now.worths ∙ ap (after (f a).log) (still log h now.worths)))

  naming_revalues : (n : ℕ) (kind : Kind) (vs : List ℤ) (b : Bool) → Revalues (naming n kind vs b).log
  naming_revalues n kind vs true now = refl
  naming_revalues n kind vs false now = refl

  updating_revalues : (o : Option (ℕ × Red)) (vs : List ℤ) → Revalues (updating o vs).log
  updating_revalues None vs now = refl
  updating_revalues (Some p) vs now = naming_revalues p.0 p.1.kind vs (names_element p.1.kind vs) now

  pub update_revalues : (tables : Tables) (reds : List Red) (env : Env) (red : Name) (es : List Term) → Revalues (update_of tables reds env red es).log
  update_revalues tables reds env red es =
      onward_revalues _ (values tables env es).answer _ (values_quiet tables env es) (λ vs. updating_revalues (numbered 0 reds red) vs)
