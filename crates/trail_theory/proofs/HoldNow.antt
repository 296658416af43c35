-- What an elision notes holds of its own tables, and each procedure that it enters has a number.
use Rattle.std.proofs.Common.{ℕ, zero, suc, ◌-◌, List, [], ◌∷◌, Option, Some, None, Result, Ok, Err, ℤ, pos, ◌≡◌, refl, true, false, Bool, cond}
use Rattle.std.specs.Prelude.{nat_le, ◌+ℤ◌}
use Rattle.std.specs.Ordering.{int_eq}
use Rattle.std.proofs.lemmas.Bool.Decides.{Decides-int_eq}
use Rattle.meaning.specs.Tree.{Name, Term, number, name, cell, has as has_term, limit, sum, negate, binary, Red, Deed, bind, enter, read, sync, update, choose, loop, give, Body, end, step, Tree}
use Rattle.meaning.specs.declared.tree.Operator.{Operator}
use Rattle.meaning.specs.declared.tree.Operator.TheVariants as o
use Rattle.monoid_laws.specs.declared.Kind.{Kind}
use Rattle.monoid_laws.specs.Kinds.{names_element}
use Rattle.meaning.specs.declared.FaultKind.TheVariants.{DivideByZero, RangeTooLong}
use Rattle.meaning.specs.Tables.{Tables, cell_of, has_row, limit_of, sum_of}
use Rattle.meaning.specs.Outcome.{Log, Accumulators, Event, Site, Out, onward, pure, fail, Reads, Enters, Updates, Reuses, Begins, Syncs, Leaves, Faults, Marks, Spawns, after}
use Rattle.meaning.specs.Run as run
use Rattle.meaning.specs.Run.{Run, at, ◌>>=◌}
use Rattle.meaning.specs.Values.{Env, put, value, values, apply, look}
use Rattle.meaning.specs.Statements.{most_iterations, reducers, numbered, naming, updating, update_of, ranged, span, bounds, Job, job_of, proc_of, fresh, put_into, turn_values}
use Rattle.meaning.specs.Elision.{Enter, Next, On, Back, go_on, back_or_zero, turns, all_turns, deed, body, elide, depth_limit}
use Rattle.meaning.specs.Records.{same_bool, agrees}
use Rattle.trail_theory.specs.Order.{Every}
use Rattle.trail_theory.specs.ReadsAtEnd.{EntersOnlyDeed, EntersOnly}
use Rattle.trail_theory.proofs.Places.{every_append}

itself : (v : ℤ) → int_eq v v ≡ true
itself v = (Decides-int_eq v v).1 refl

held_itself : (b : Bool) → same_bool b b ≡ true
held_itself true = refl
held_itself false = refl

module _ (tables : Tables) (Known : Name → Type 0) where
  -- what was read is there, and what was entered is known
  abbrev pub Now : Event → Type 0
  Now (Reads r) = agrees tables r ≡ true
  Now (Enters f args d) = Known f
  Now (Updates n kind w) = Unit {0}
  Now (Reuses f args ws) = Unit {0}
  Now (Begins n d) = Unit {0}
  Now (Syncs n) = Unit {0}
  Now (Spawns n) = Unit {0}
  Now (Leaves n v) = Unit {0}
  Now (Faults k) = Unit {0}
  Now (Marks f args c) = Unit {0}

  abbrev pub HoldsOut : {F A : Type 0} → Out F A → Type 0
  HoldsOut o = Every Now o.log

  now_onward : {F A B : Type 0} (log : Log) (r : Result A F) (f : A → Out F B) → Every Now log → ((a : A) → HoldsOut (f a)) → HoldsOut (onward log r f)
  now_onward log (Err e) f h k = h
  now_onward log (Ok a) f h k = every_append Now log (f a).log h (k a)

  now_cond : {F A : Type 0} (b : Bool) (x y : Out F A) → HoldsOut x → HoldsOut y → HoldsOut (cond b x y)
  now_cond true x y h k = h
  now_cond false x y h k = k

  now_apply : (op : Operator) (x y : ℤ) → HoldsOut (apply op x y)
  now_apply o.Add x y = tt
  now_apply o.Subtract x y = tt
  now_apply o.Multiply x y = tt
  now_apply o.Divide x y = now_cond (int_eq y (pos 0)) (fail DivideByZero) (pure _) tt tt
  now_apply o.Remainder x y = now_cond (int_eq y (pos 0)) (fail DivideByZero) (pure _) tt tt
  now_apply o.Equal x y = tt
  now_apply o.Unequal x y = tt
  now_apply o.Less x y = tt
  now_apply o.AtMost x y = tt
  now_apply o.Greater x y = tt
  now_apply o.AtLeast x y = tt

  now_look : (t : Name) (row : ℤ) (c : Name) (v : Option ℤ) → cell_of tables t row c ≡ v → HoldsOut (look t row c v)
  now_look t row c None e = tt
  now_look t row c (Some v) e = (rw e (itself v), tt)

  now_value : (env : Env) (e : Term) → HoldsOut (value tables env e)
  now_value env (number n) = tt
  now_value env (name x) = tt
  now_value env (cell t e c) = now_onward _ (value tables env e).answer _ (now_value env e) (λ row. now_look t row c (cell_of tables t row c) refl)
  now_value env (has_term t e) = now_onward _ (value tables env e).answer _ (now_value env e) (λ row. (held_itself (has_row tables t row), tt))
  now_value env (limit t) = (itself (limit_of tables t), tt)
  now_value env (sum t c) = (itself (sum_of tables t c), tt)
  now_value env (negate e) = now_onward _ (value tables env e).answer _ (now_value env e) (λ x. tt)
  now_value env (binary op e f) = now_onward _ (value tables env e).answer _ (now_value env e) (λ x. now_onward _ (value tables env f).answer _ (now_value env f) (λ y. now_apply op x y))

  now_values : (env : Env) (es : List Term) → HoldsOut (values tables env es)
  now_values env [] = tt
  now_values env (e ∷ es) = now_onward _ (value tables env e).answer _ (now_value env e) (λ x. now_onward _ (values tables env es).answer _ (now_values env es) (λ y. tt))

  now_naming : (n : ℕ) (kind : Kind) (vs : List ℤ) (b : Bool) → HoldsOut (naming n kind vs b)
  now_naming n kind vs false = tt
  now_naming n kind vs true = (tt, tt)

  now_updating : (r : Option (ℕ × Red)) (vs : List ℤ) → HoldsOut (updating r vs)
  now_updating None vs = tt
  now_updating (Some (n, r)) vs = now_naming n r.kind vs (names_element r.kind vs)

  now_update : (reds : List Red) (env : Env) (r : Name) (es : List Term) → HoldsOut (update_of tables reds env r es)
  now_update reds env r es = now_onward _ (values tables env es).answer _ (now_values env es) (λ vs. now_updating (numbered 0 reds r) vs)

  now_bounds : (env : Env) (e f : Term) → HoldsOut (bounds tables env e f)
  now_bounds env e f = now_onward _ (value tables env e).answer _ (now_value env e) (λ low. now_onward _ (value tables env f).answer _ (now_value env f) (λ high. now_onward _ (ranged (span low high)).answer _ (now_cond (nat_le (span low high) most_iterations) (pure (span low high)) (fail RangeTooLong) tt tt) (λ n. tt)))

  -- ---- runs

  abbrev HoldsRun : {A : Type 0} → Run A → Type 0
  HoldsRun m = (acc : Accumulators) → HoldsOut (m acc)

  now_bind : {A B : Type 0} (m : Run A) (f : A → Run B) → HoldsRun m → ((a : A) → HoldsRun (f a)) → HoldsRun (m >>= f)
  now_bind m f h k acc = now_onward (m acc).log (m acc).answer (λ a. f a (after (m acc).log acc)) (h acc) (λ a. k a (after (m acc).log acc))

  run_cond : {A : Type 0} (b : Bool) (x y : Run A) → HoldsRun x → HoldsRun y → HoldsRun (cond b x y)
  run_cond true x y h k = h
  run_cond false x y h k = k

  module _ (program : Tree) (enters : Enter) (good : (site : Site) (f : Name) (vs : List ℤ) → Known f → HoldsRun (enters site f vs)) where
    now_turns : (job : Job) → Known job.callee → (count i : ℕ) → HoldsRun (turns program tables enters job count i)
    now_turns job known zero i = λ acc. tt
    now_turns job known (suc count) i =
        let rest = λ (v : ℤ). turns program tables enters job count (suc i) in
        now_bind (at job.site (turn_values tables job i)) (λ vs. enters job.site job.callee vs >>= rest) (λ acc. now_values (put job.env job.variable (job.low +ℤ pos i)) job.args) (λ vs. now_bind (enters job.site job.callee vs) rest (good job.site job.callee vs known) (λ v. now_turns job known count (suc i)))

    all_now : (job : Job) → Known job.callee → (count : ℕ) → HoldsRun (all_turns program tables enters job count)
    unfolding all_turns
    all_now job known count = now_turns job known count 0

    now_next : (x : Next) (f : Env → Run Next) → ((env : Env) → HoldsRun (f env)) → HoldsRun (go_on x f)
    now_next (On env) f h = h env
    now_next (Back v) f h = λ acc. tt

    mutual
      now_deed : (site : Site) (env : Env) (d : Deed) → EntersOnlyDeed Known d → HoldsRun (deed program tables enters site env d)
      now_deed site env (bind x e) k = now_bind (at site (value tables env e)) (λ v. run.pure (On (put env x v))) (λ acc. now_value env e) (λ v acc. tt)
      now_deed site env (enter x way f es) k =
          let give_back = λ (v : ℤ). run.pure (On (put_into x env v)) in
          now_bind (at site (values tables env es)) (λ vs. enters site f vs >>= give_back) (λ acc. now_values env es) (λ vs. now_bind (enters site f vs) give_back (good site f vs k) (λ v acc. tt))
      now_deed site env (read x r) k = λ acc. tt
      now_deed site env sync k = λ acc. tt
      now_deed site env (update r es) k = now_bind (at site (update_of tables (reducers program) env r es)) (λ u. run.pure (On env)) (λ acc. now_update (reducers program) env r es) (λ u acc. tt)
      now_deed site env (choose e a b) k =
          let branch = λ (v : ℤ). cond (int_eq v (pos 0)) (body program tables enters site.procedure env b) (body program tables enters site.procedure env a) in
          now_bind (at site (value tables env e)) branch (λ acc. now_value env e) (λ v. run_cond (int_eq v (pos 0)) (body program tables enters site.procedure env b) (body program tables enters site.procedure env a) (now_body site.procedure env b k.1) (now_body site.procedure env a k.0))
      now_deed site env (loop x e f grain g es) k =
          let job = λ (range : ℤ × ℕ). job_of site env x g es grain range.0 in
          now_bind (at site (bounds tables env e f)) (λ range. all_turns program tables enters (job range) range.1 >>= (λ u. run.pure (On env))) (λ acc. now_bounds env e f) (λ range. now_bind (all_turns program tables enters (job range) range.1) (λ u. run.pure (On env)) (all_now (job range) k range.1) (λ u acc. tt))
      now_deed site env (give e) k = now_bind (at site (value tables env e)) (λ v. run.pure (Back v)) (λ acc. now_value env e) (λ v acc. tt)

      now_body : (here : Name) (env : Env) (b : Body) → EntersOnly Known b → HoldsRun (body program tables enters here env b)
      now_body here env end k = λ acc. tt
      now_body here env (step n d b) k =
          let rest = λ (env' : Env). body program tables enters here env' b in
          now_bind (deed program tables enters (record { procedure = here; statement = n }) env d) (λ x. go_on x rest) (now_deed (record { procedure = here; statement = n }) env d k.0) (λ x. now_next x rest (λ env'. now_body here env' b k.1))

  pub now_elide : (program : Tree) → ((f : Name) → EntersOnly Known (proc_of program f).body) → (left : ℕ) (site : Site) (f : Name) (vs : List ℤ) → Known f → HoldsRun (elide program tables left site f vs)
  unfolding elide
  now_elide program all zero site f vs known = λ acc. tt
  now_elide program all (suc left) site f vs known =
      let p = proc_of program f in
      let inside = body program tables (elide program tables left) p.called (fresh p.names vs) p.body in
      now_bind (run.note (Enters f vs (depth_limit - left))) (λ u. inside >>= (λ x. run.pure (back_or_zero x))) (λ acc. (known, tt)) (λ u. now_bind inside (λ x. run.pure (back_or_zero x)) (now_body program (elide program tables left) (λ site f vs k. now_elide program all left site f vs k) p.called (fresh p.names vs) p.body (all f)) (λ x acc. tt))
