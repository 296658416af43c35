-- An elision without a fault depends on nothing but what it notes: another program, other tables and another depth that agree with that give the same.
use Rattle.std.proofs.Common.{ℕ, zero, suc, ◌+◌, ◌-◌, ◌≤◌, List, [], ◌∷◌, ◌++◌, Option, Some, None, Result, Ok, Err, ℤ, pos, ◌≡◌, refl, sym, ap, ◌∙◌, subst, arith, true, false, Bool, cond}
use Rattle.std.specs.Prelude.{nat_le, ◌+ℤ◌, slice_get}
use Rattle.std.specs.Ordering.{int_eq}
use Rattle.std.proofs.lemmas.Bool.Decides.{Decides-int_eq}
use Rattle.meaning.specs.Tree.{Name, Term, number, name, cell, has as has_term, limit, sum, negate, binary, Deed, bind, enter, read, sync, update, choose, loop, give, Body, end, step, Proc, Red, Tree}
use Rattle.meaning.specs.declared.tree.Operator.{Operator}
use Rattle.meaning.specs.declared.tree.Operator.TheVariants as o
use Rattle.monoid_laws.specs.declared.Kind.{Kind}
use Rattle.monoid_laws.specs.Kinds.{names_element}
use Rattle.meaning.specs.declared.FaultKind.{FaultKind}
use Rattle.meaning.specs.declared.FaultKind.TheVariants.{DivideByZero, RangeTooLong}
use Rattle.meaning.specs.Tables.{Tables, cell_of, has_row, limit_of, sum_of}
use Rattle.meaning.specs.Outcome.{Log, Accumulators, Fault, Site, Event, Reads, Enters, Updates, Reuses, Begins, Syncs, Leaves, Faults, Marks, Spawns, HasHeld, LimitHeld, SumHeld, Out, onward, pure, fail, after, updated, combined}
use Rattle.meaning.specs.Run as run
use Rattle.meaning.specs.Run.{Run, placed, at}
use Rattle.meaning.specs.Values.{Env, put, one_if, value, values, apply, look}
use Rattle.meaning.specs.Statements.{most_iterations, reducers, numbered, Job, job_of, proc_of, fresh, put_into, reading, naming, updating, update_of, ranged, span, bounds, turn_values}
use Rattle.meaning.specs.Elision.{Enter, Next, On, Back, go_on, back_or_zero, turns, all_turns, deed, body, instance, elide, depth_limit}
use Rattle.meaning.specs.Records.{agrees, same_number, same_bool}
use Rattle.trail_theory.specs.Order.{Every}

int_same : (x y : ℤ) → int_eq x y ≡ true → x ≡ y
int_same x y e = (Decides-int_eq x y).0 e

same_held : (o : Option ℤ) (v : ℤ) → same_number o v ≡ true → o ≡ Some v
same_held None v e = absurd cc
same_held (Some w) v e = ap Some (int_same w v e)

same_answer : (a b : Bool) → same_bool a b ≡ true → a ≡ b
same_answer true true e = refl
same_answer true false e = absurd cc
same_answer false true e = absurd cc
same_answer false false e = refl

module _ (program other : Tree) (tables others : Tables) (a b : ℕ) (reds : reducers program ≡ reducers other) where
  -- the other run finds the same there
  abbrev pub Holds : Event → Type 0
  Holds (Reads r) = agrees others r ≡ true
  Holds (Enters f args d) = (proc_of program f ≡ proc_of other f) × (d + a ≤ depth_limit + b)
  Holds (Updates n kind w) = Unit {0}
  Holds (Reuses f args ws) = Unit {0}
  Holds (Begins n d) = Unit {0}
  Holds (Syncs n) = Unit {0}
  Holds (Spawns n) = Unit {0}
  Holds (Leaves n v) = Unit {0}
  Holds (Faults k) = Unit {0}
  Holds (Marks f args c) = Unit {0}

  -- these events at the other depth
  abbrev pub shifted : Log → Log
  shifted [] = []
  shifted (Reads r ∷ es) = Reads r ∷ shifted es
  shifted (Enters f args d ∷ es) = Enters f args (d + a - b) ∷ shifted es
  shifted (Updates n kind w ∷ es) = Updates n kind w ∷ shifted es
  shifted (Reuses f args ws ∷ es) = Reuses f args ws ∷ shifted es
  shifted (Begins n d ∷ es) = Begins n d ∷ shifted es
  shifted (Syncs n ∷ es) = Syncs n ∷ shifted es
  shifted (Spawns n ∷ es) = Spawns n ∷ shifted es
  shifted (Leaves n v ∷ es) = Leaves n v ∷ shifted es
  shifted (Faults k ∷ es) = Faults k ∷ shifted es
  shifted (Marks f args c ∷ es) = Marks f args c ∷ shifted es

  shifted_append : (x y : Log) → shifted (x ++ y) ≡ shifted x ++ shifted y
  shifted_append [] y = refl
  shifted_append (Reads r ∷ x) y = ap (λ l. Reads r ∷ l) (shifted_append x y)
  shifted_append (Enters f args d ∷ x) y = ap (λ l. Enters f args (d + a - b) ∷ l) (shifted_append x y)
  shifted_append (Updates n kind w ∷ x) y = ap (λ l. Updates n kind w ∷ l) (shifted_append x y)
  shifted_append (Reuses f args ws ∷ x) y = ap (λ l. Reuses f args ws ∷ l) (shifted_append x y)
  shifted_append (Begins n d ∷ x) y = ap (λ l. Begins n d ∷ l) (shifted_append x y)
  shifted_append (Syncs n ∷ x) y = ap (λ l. Syncs n ∷ l) (shifted_append x y)
  shifted_append (Spawns n ∷ x) y = ap (λ l. Spawns n ∷ l) (shifted_append x y)
  shifted_append (Leaves n v ∷ x) y = ap (λ l. Leaves n v ∷ l) (shifted_append x y)
  shifted_append (Faults k ∷ x) y = ap (λ l. Faults k ∷ l) (shifted_append x y)
  shifted_append (Marks f args c ∷ x) y = ap (λ l. Marks f args c ∷ l) (shifted_append x y)

  pub after_shifted : (es : Log) (acc : Accumulators) → after (shifted es) acc ≡ after es acc
  after_shifted [] acc = refl
  after_shifted (Reads r ∷ es) acc = after_shifted es acc
  after_shifted (Enters f args d ∷ es) acc = after_shifted es acc
  after_shifted (Updates n kind w ∷ es) acc = after_shifted es (updated acc n kind w (slice_get acc n))
  after_shifted (Reuses f args ws ∷ es) acc = after_shifted es (combined acc ws)
  after_shifted (Begins n d ∷ es) acc = after_shifted es acc
  after_shifted (Syncs n ∷ es) acc = after_shifted es acc
  after_shifted (Spawns n ∷ es) acc = after_shifted es acc
  after_shifted (Leaves n v ∷ es) acc = after_shifted es acc
  after_shifted (Faults k ∷ es) acc = after_shifted es acc
  after_shifted (Marks f args c ∷ es) acc = after_shifted es acc

  holds_left : (x y : Log) → Every Holds (x ++ y) → Every Holds x
  holds_left [] y h = tt
  holds_left (e ∷ x) y h = (h.0, holds_left x y h.1)

  holds_right : (x y : Log) → Every Holds (x ++ y) → Every Holds y
  holds_right [] y h = h
  holds_right (e ∷ x) y h = holds_right x y h.1

  -- the other piece gives the same, where the first has no fault and the other run finds what it noted
  abbrev pub Follows : {F A : Type 0} → Log → Result A F → Out F A → Type 0
  Follows log (Ok v) o = Every Holds log → o ≡ record { log = shifted log; answer = Ok v }
  Follows log (Err e) o = Unit {0}

  abbrev pub Follow : {F A : Type 0} → Out F A → Out F A → Type 0
  Follow p o = Follows p.log p.answer o

  follows_after : {F A B : Type 0} (x : Log) (v : A) (o : Out F A) (f : A → Out F B) (l : Log) (r : Result B F) → Follows x (Ok v) o → Follows l r (f v) → Follows (x ++ l) r (onward o.log o.answer f)
  follows_after x v o f l (Err e) h k = tt
  follows_after x v o f l (Ok w) h k = λ t.
      ap (λ z. onward z.log z.answer f) (h (holds_left x l t)) ∙ ap (λ z. record { log = shifted x ++ z.log; answer = z.answer }) (k (holds_right x l t)) ∙ ap (λ z. record { log = z; answer = Ok w }) (sym (shifted_append x l))

  follows_onward : {F A B : Type 0} (x : Log) (r : Result A F) (o : Out F A) (f g : A → Out F B) → Follows x r o → ((v : A) → Follow (f v) (g v)) → Follow (onward x r f) (onward o.log o.answer g)
  follows_onward x (Err e) o f g h k = tt
  follows_onward x (Ok v) o f g h k = follows_after x v o g (f v).log (f v).answer h (k v)

  follows_cond : {F A : Type 0} (c : Bool) (p q : Out F A) → Follow p p → Follow q q → Follow (cond c p q) (cond c p q)
  follows_cond true p q h k = h
  follows_cond false p q h k = k

  -- ---- evaluations
  apply_follows : (op : Operator) (x y : ℤ) → Follow (apply op x y) (apply op x y)
  apply_follows o.Add x y = λ t. refl
  apply_follows o.Subtract x y = λ t. refl
  apply_follows o.Multiply x y = λ t. refl
  apply_follows o.Divide x y = follows_cond (int_eq y (pos 0)) (fail DivideByZero) (pure _) tt (λ t. refl)
  apply_follows o.Remainder x y = follows_cond (int_eq y (pos 0)) (fail DivideByZero) (pure _) tt (λ t. refl)
  apply_follows o.Equal x y = λ t. refl
  apply_follows o.Unequal x y = λ t. refl
  apply_follows o.Less x y = λ t. refl
  apply_follows o.AtMost x y = λ t. refl
  apply_follows o.Greater x y = λ t. refl
  apply_follows o.AtLeast x y = λ t. refl

  look_follows : (t : Name) (row : ℤ) (c : Name) (v w : Option ℤ) → ((u : ℤ) → v ≡ Some u → same_number w u ≡ true → w ≡ Some u) → cell_of others t row c ≡ w → Follow (look t row c v) (look t row c w)
  look_follows t row c None w h q = tt
  look_follows t row c (Some v) w h q = λ z. ap (look t row c) (h v refl (ap (λ x. same_number x v) (sym q) ∙ z.0))

  value_follows : (env : Env) (e : Term) → Follow (value tables env e) (value others env e)
  value_follows env (number n) = λ t. refl
  value_follows env (name x) = λ t. refl
  value_follows env (cell n e c) =
      follows_onward _ (value tables env e).answer (value others env e) _ _ (value_follows env e) (λ row. look_follows n row c (cell_of tables n row c) (cell_of others n row c) (λ u p. same_held (cell_of others n row c) u) refl)
  value_follows env (has_term n e) =
      follows_onward _ (value tables env e).answer (value others env e) _ _ (value_follows env e) (λ row z. ap (λ x. record { log = Reads (HasHeld n row x) ∷ []; answer = Ok (one_if x) }) (same_answer (has_row others n row) (has_row tables n row) z.0))
  value_follows env (limit n) = λ z. ap (λ x. record { log = Reads (LimitHeld n x) ∷ []; answer = Ok x }) (int_same (limit_of others n) (limit_of tables n) z.0)
  value_follows env (sum n c) = λ z. ap (λ x. record { log = Reads (SumHeld n c x) ∷ []; answer = Ok x }) (int_same (sum_of others n c) (sum_of tables n c) z.0)
  value_follows env (negate e) = follows_onward _ (value tables env e).answer (value others env e) _ _ (value_follows env e) (λ x t. refl)
  value_follows env (binary op e f) =
      follows_onward _ (value tables env e).answer (value others env e) _ _ (value_follows env e) (λ x. follows_onward _ (value tables env f).answer (value others env f) _ _ (value_follows env f) (λ y. apply_follows op x y))

  values_follow : (env : Env) (es : List Term) → Follow (values tables env es) (values others env es)
  values_follow env [] = λ t. refl
  values_follow env (e ∷ es) =
      follows_onward _ (value tables env e).answer (value others env e) _ _ (value_follows env e) (λ v. follows_onward _ (values tables env es).answer (values others env es) _ _ (values_follow env es) (λ vs t. refl))

  bounds_follow : (env : Env) (e f : Term) → Follow (bounds tables env e f) (bounds others env e f)
  bounds_follow env e f =
      follows_onward _ (value tables env e).answer (value others env e) _ _ (value_follows env e) (λ low. follows_onward _ (value tables env f).answer (value others env f) _ _ (value_follows env f) (λ high.
      follows_onward _ (ranged (span low high)).answer (ranged (span low high)) _ _ (follows_cond (nat_le (span low high) most_iterations) (pure (span low high)) (fail RangeTooLong) (λ t. refl) tt) (λ n t. refl)))

  naming_follows : (n : ℕ) (kind : Kind) (vs : List ℤ) (c : Bool) → Follow (naming n kind vs c) (naming n kind vs c)
  naming_follows n kind vs false = tt
  naming_follows n kind vs true = λ t. refl

  updating_follows : (r : Option (ℕ × Red)) (vs : List ℤ) → Follow (updating r vs) (updating r vs)
  updating_follows None vs = λ t. refl
  updating_follows (Some (n, r)) vs = naming_follows n r.kind vs (names_element r.kind vs)

  update_follows : (env : Env) (r : Name) (es : List Term) → Follow (update_of tables (reducers program) env r es) (update_of others (reducers other) env r es)
  update_follows env r es =
      follows_onward _ (values tables env es).answer (values others env es) _ _ (values_follow env es) (λ vs.
      subst (λ rs. Follow (updating (numbered 0 (reducers program) r) vs) (updating (numbered 0 rs r) vs)) reds (updating_follows (numbered 0 (reducers program) r) vs))

  -- ---- runs
  follows_then : {A B : Type 0} (x : Log) (r : Result A Fault) (o : Out Fault A) (f g : A → Run B) (acc : Accumulators) → Follows x r o → ((v : A) (acc : Accumulators) → Follow (f v acc) (g v acc))
      → Follow (onward x r (λ v. f v (after x acc))) (onward o.log o.answer (λ v. g v (after o.log acc)))
  follows_then x (Err e) o f g acc h k = tt
  follows_then x (Ok v) o f g acc h k = follows_run x v o g acc (f v (after x acc)).log (f v (after x acc)).answer h (k v (after x acc))
    where
      follows_run : {A B : Type 0} (x : Log) (v : A) (o : Out Fault A) (g : A → Run B) (acc : Accumulators) (l : Log) (r : Result B Fault) → Follows x (Ok v) o → Follows l r (g v (after x acc)) → Follows (x ++ l) r (onward o.log o.answer (λ v. g v (after o.log acc)))
      follows_run x v o g acc l (Err e) h k = tt
      follows_run x v o g acc l (Ok w) h k = λ t.
          ap (λ z. onward z.log z.answer (λ v. g v (after z.log acc))) (h (holds_left x l t)) ∙ ap (λ s. record { log = shifted x ++ (g v s).log; answer = (g v s).answer }) (after_shifted x acc)
          ∙ ap (λ z. record { log = shifted x ++ z.log; answer = z.answer }) (k (holds_right x l t)) ∙ ap (λ z. record { log = z; answer = Ok w }) (sym (shifted_append x l))

  at_follows : {A : Type 0} (site : Site) (x : Log) (r : Result A FaultKind) (o : Out FaultKind A) → Follows x r o → Follows x (placed site r) (record { log = o.log; answer = placed site o.answer })
  at_follows site x (Err e) o h = tt
  at_follows site x (Ok v) o h = λ t. ap (λ z. record { log = z.log; answer = placed site z.answer }) (h t)

  -- an evaluation at a statement, and then the rest
  eval_follows : {A B : Type 0} (site : Site) (p o : Out FaultKind A) (f g : A → Run B) (acc : Accumulators) → Follow p o → ((v : A) (acc : Accumulators) → Follow (f v acc) (g v acc)) → Follow (run.◌>>=◌ (at site p) f acc) (run.◌>>=◌ (at site o) g acc)
  eval_follows site p o f g acc h k = follows_then p.log (placed site p.answer) (record { log = o.log; answer = placed site o.answer }) f g acc (at_follows site p.log p.answer o h) k

  either_follows : {A : Type 0} (c : Bool) (x y x' y' : Run A) (acc : Accumulators) → Follow (x acc) (x' acc) → Follow (y acc) (y' acc) → Follow (cond c x y acc) (cond c x' y' acc)
  either_follows true x y x' y' acc h k = h
  either_follows false x y x' y' acc h k = k

  next_follows : (x : Next) (f g : Env → Run Next) (acc : Accumulators) → ((env : Env) (acc : Accumulators) → Follow (f env acc) (g env acc)) → Follow (go_on x f acc) (go_on x g acc)
  next_follows (On env) f g acc h = h env acc
  next_follows (Back v) f g acc h = λ t. refl

  -- what the other run finds at its head
  guarded : {F A : Type 0} (x : Log) (r : Result A F) (o : Out F A) → (Every Holds x → Follows x r o) → Follows x r o
  guarded x (Err e) o h = tt
  guarded x (Ok v) o h = λ t. h t t

  abbrev entering_of : Name → List ℤ → ℕ → Out Fault (Unit {0})
  entering_of f vs d = record { log = Enters f vs d ∷ []; answer = Ok tt }

  -- ---- statements, where the instances below give the same
  module _ (one two : Enter) (same : (site : Site) (f : Name) (vs : List ℤ) (acc : Accumulators) → Follow (one site f vs acc) (two site f vs acc)) where
    turns_follow : (job : Job) (count i : ℕ) (acc : Accumulators) → Follow (turns program tables one job count i acc) (turns other others two job count i acc)
    turns_follow job zero i acc = λ t. refl
    turns_follow job (suc count) i acc =
        eval_follows job.site (turn_values tables job i) (turn_values others job i) _ _ acc (values_follow (put job.env job.variable (job.low +ℤ pos i)) job.args) (λ vs acc'.
        follows_then _ (one job.site job.callee vs acc').answer (two job.site job.callee vs acc') _ _ acc' (same job.site job.callee vs acc') (λ v acc''. turns_follow job count (suc i) acc''))

    loop_follows : (job : Job) (count : ℕ) (acc : Accumulators) → Follow (all_turns program tables one job count acc) (all_turns other others two job count acc)
    unfolding all_turns
    loop_follows job count acc = turns_follow job count 0 acc

    mutual
      deed_follows : (site : Site) (env : Env) (d : Deed) (acc : Accumulators) → Follow (deed program tables one site env d acc) (deed other others two site env d acc)
      deed_follows site env (bind x e) acc = eval_follows site (value tables env e) (value others env e) (λ v. run.pure (On (put env x v))) (λ v. run.pure (On (put env x v))) acc (value_follows env e) (λ v acc' t. refl)
      deed_follows site env (enter x way f es) acc =
          eval_follows site (values tables env es) (values others env es) _ _ acc (values_follow env es) (λ vs acc'. follows_then _ (one site f vs acc').answer (two site f vs acc') (λ v. run.pure (On (put_into x env v))) (λ v. run.pure (On (put_into x env v))) acc' (same site f vs acc') (λ v acc'' t. refl))
      deed_follows site env (read x r) acc = λ t. ap (λ rs. record { log = []; answer = Ok (On (put env x (reading acc (numbered 0 rs r)))) }) (sym reds)
      deed_follows site env sync acc = λ t. refl
      deed_follows site env (update r es) acc = eval_follows site (update_of tables (reducers program) env r es) (update_of others (reducers other) env r es) (λ u. run.pure (On env)) (λ u. run.pure (On env)) acc (update_follows env r es) (λ u acc' t. refl)
      deed_follows site env (choose e x y) acc =
          eval_follows site (value tables env e) (value others env e) _ _ acc (value_follows env e) (λ v acc'. either_follows (int_eq v (pos 0)) (body program tables one site.procedure env y) (body program tables one site.procedure env x) (body other others two site.procedure env y) (body other others two site.procedure env x) acc' (body_follows site.procedure env y acc') (body_follows site.procedure env x acc'))
      deed_follows site env (loop x e e' grain f es) acc =
          eval_follows site (bounds tables env e e') (bounds others env e e') _ _ acc (bounds_follow env e e') (λ range acc'.
          let job = job_of site env x f es grain range.0 in
          follows_then _ (all_turns program tables one job range.1 acc').answer (all_turns other others two job range.1 acc') (λ u. run.pure (On env)) (λ u. run.pure (On env)) acc' (loop_follows job range.1 acc') (λ u acc'' t. refl))
      deed_follows site env (give e) acc = eval_follows site (value tables env e) (value others env e) (λ v. run.pure (Back v)) (λ v. run.pure (Back v)) acc (value_follows env e) (λ v acc' t. refl)

      body_follows : (here : Name) (env : Env) (p : Body) (acc : Accumulators) → Follow (body program tables one here env p acc) (body other others two here env p acc)
      body_follows here env end acc = λ t. refl
      body_follows here env (step n d p) acc =
          let site : Site = record { procedure = here; statement = n } in
          follows_then _ (deed program tables one site env d acc).answer (deed other others two site env d acc) _ _ acc (deed_follows site env d acc) (λ next acc'. next_follows next (λ env'. body program tables one here env' p) (λ env'. body other others two here env' p) acc' (λ env' acc''. body_follows here env' p acc''))

    instance_follows : (f : Name) (vs : List ℤ) (d e : ℕ) (p : Proc) (acc : Accumulators) → e ≡ d + a - b → Follow (instance program tables one f vs d p acc) (instance other others two f vs e p acc)
    instance_follows f vs d e p acc q =
        let noted : Out Fault (Unit {0}) = record { log = Enters f vs e ∷ []; answer = Ok tt } in
        let entered : Follows {F = Fault} {A = Unit {0}} (Enters f vs d ∷ []) (Ok tt) noted = λ t. ap (entering_of f vs) q in
        follows_then {A = Unit {0}} {B = ℤ} (Enters f vs d ∷ []) (Ok tt) noted _ _ acc entered (λ u acc'.
        follows_then _ (body program tables one p.called (fresh p.names vs) p.body acc').answer (body other others two p.called (fresh p.names vs) p.body acc') (λ next. run.pure (back_or_zero next)) (λ next. run.pure (back_or_zero next)) acc' (body_follows p.called (fresh p.names vs) p.body acc') (λ next acc'' t. refl))

  -- so many levels below each
  pub elide_follows : (l m : ℕ) → l ≤ depth_limit → m ≤ depth_limit → a + m ≡ b + l → (site : Site) (f : Name) (vs : List ℤ) (acc : Accumulators) → Follow (elide program tables l site f vs acc) (elide other others m site f vs acc)
  unfolding elide
  elide_follows zero m x y q site f vs acc = tt
  elide_follows (suc l) zero x y q site f vs acc = guarded (Enters f vs (depth_limit - l) ∷ _) (instance program tables (elide program tables l) f vs (depth_limit - l) (proc_of program f) acc).answer (elide other others zero site f vs acc) (λ t. absurd (let h : (depth_limit - l) + a ≤ depth_limit + b = t.0.1 in omega arith))
  elide_follows (suc l) (suc m) x y q site f vs acc =
      guarded (Enters f vs (depth_limit - l) ∷ _) (instance program tables (elide program tables l) f vs (depth_limit - l) (proc_of program f) acc).answer (instance other others (elide other others m) f vs (depth_limit - m) (proc_of other f) acc) (λ t. subst (λ p. Follow (instance program tables (elide program tables l) f vs (depth_limit - l) (proc_of program f) acc) (instance other others (elide other others m) f vs (depth_limit - m) p acc)) t.0.0
      (instance_follows (elide program tables l) (elide other others m) (elide_follows l m (omega arith) (omega arith) (omega arith)) f vs (depth_limit - l) (depth_limit - m) (proc_of program f) acc (omega arith)))
