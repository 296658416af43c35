-- One step of a run, in results.
use Rattle.std.proofs.Common.{◌≡◌, ℕ, zero, suc, ◌+◌, ◌-◌, ◌<◌, List, ◌∷◌, ℤ, pos, Bool, true, false, cond, Option, Some, None, Result, Ok, Err, refl, ap, sym, ◌∙◌, subst, drop, arith, get_or, add-one}
use Rattle.std.specs.Prelude.{length}
use Rattle.std.specs.Ordering.{int_eq}
use Rattle.std.proofs.lemmas.Bool.Decides.{Decides-int_eq}
use Rattle.std.proofs.Math.Seq.{drop-cons}
use Rattle.meaning.specs.Tree.{Name, Term, Proc, Body, Tree, Deed, step}
use Rattle.meaning.specs.TreeView.{deed as deed_plain, statements as statements_plain}
use Rattle.meaning.specs.declared.tree.Statement.{Statement}
use Rattle.meaning.specs.declared.FaultKind.{FaultKind}
use Rattle.meaning.specs.declared.FaultKind.TheVariants.{TooDeep}
use Rattle.meaning.specs.Tables.{Tables}
use Rattle.meaning.specs.Outcome.{Accumulators, after, Fault, Site, Enters}
use Rattle.meaning.specs.Run.{Run, ◌>>=◌, placed, at, pure, note, nothing}
use Rattle.meaning.specs.Values.{Env, value, values, put}
use Rattle.meaning.specs.Statements.{reducers, procedure_of, found, absent, put_into, update_of, bounds, Job, job_of, turn_values}
use Rattle.meaning.specs.Elision.{depth_limit, Enter, Next, On, Back, go_on, instance, body, deed, turns, all_turns}
use Rattle.serial_oracle.specs.declared.stops.Stop.{Stop}
use Rattle.serial_oracle.specs.declared.stops.Stop.TheVariants as stop
use Rattle.serial_oracle.specs.declared.stops.Trouble.{Trouble}
use Rattle.serial_oracle.specs.declared.stops.Trouble.TheVariants as trouble
use Rattle.meaning.specs.Records.{Kept, Revised, needing, answered, if_valid, record_of, is_memo}
use Rattle.serial_oracle.specs.Results.{Summary, with_worths, with_executed, through, results, fault_plain, Gives, Does, GivesNext, Notes, EvaluatesAll, IsFault, IsTrouble}
use Rattle.serial_oracle.specs.Worths.{outcome_of}
use Rattle.serial_oracle.specs.Pieces.{bound, back, updates_here, entered, chosen, looped, turn, inside, memoised}
use Rattle.serial_oracle.proofs.Forgetting.{next, bind_results, value_results, values_results, bounds_results, update_revalues}

-- a fault at a site
abbrev pub fault_of : FaultKind → Site → Fault
fault_of kind site = record { kind = kind; site = site }

abbrev pub HasFault : Stop → Fault → Type 0
HasFault (stop.Fault e) f = fault_plain e ≡ f
HasFault stop.NoMemory f = Unit {0}

pub next_fails : (st : Stop) (f : Fault) (env : Env) (now : Summary) (o : Result Next Fault × Summary) → HasFault st f → o ≡ (Err f, now) → GivesNext (Err st) env now o
next_fails (stop.Fault e) f env now o h p = p ∙ ap (λ x. (Err x, now)) (sym h)
next_fails stop.NoMemory f env now o h p = tt

module _ (program : Tree) where
  -- a value, and the rest
  pub value_goes : {B : Type 0} (tables : Tables) (env : Env) (e : Term) (site : Site) (now : Summary) (k : ℤ → Run B) (v : ℤ) → (value tables env e).answer ≡ Ok v → results program (at site (value tables env e) >>= k) now ≡ results program (k v) now
  value_goes tables env e site now k v h =
      bind_results program (at site (value tables env e)) k now ∙ ap (λ x. next program x k) (value_results program tables env e site now) ∙ ap (λ x. next program (placed site x, now) k) h

  pub value_fails : {B : Type 0} (tables : Tables) (env : Env) (e : Term) (site : Site) (now : Summary) (k : ℤ → Run B) (kind : FaultKind) → (value tables env e).answer ≡ Err kind → results program (at site (value tables env e) >>= k) now ≡ (Err (fault_of kind site), now)
  value_fails tables env e site now k kind h =
      bind_results program (at site (value tables env e)) k now ∙ ap (λ x. next program x k) (value_results program tables env e site now) ∙ ap (λ x. next program (placed site x, now) k) h

  pub values_goes : {B : Type 0} (tables : Tables) (env : Env) (es : List Term) (site : Site) (now : Summary) (k : List ℤ → Run B) (vs : List ℤ) → (values tables env es).answer ≡ Ok vs → results program (at site (values tables env es) >>= k) now ≡ results program (k vs) now
  values_goes tables env es site now k vs h =
      bind_results program (at site (values tables env es)) k now ∙ ap (λ x. next program x k) (values_results program tables env es site now) ∙ ap (λ x. next program (placed site x, now) k) h

  pub values_fails : {B : Type 0} (tables : Tables) (env : Env) (es : List Term) (site : Site) (now : Summary) (k : List ℤ → Run B) (kind : FaultKind) → (values tables env es).answer ≡ Err kind → results program (at site (values tables env es) >>= k) now ≡ (Err (fault_of kind site), now)
  values_fails tables env es site now k kind h =
      bind_results program (at site (values tables env es)) k now ∙ ap (λ x. next program x k) (values_results program tables env es site now) ∙ ap (λ x. next program (placed site x, now) k) h

  -- a piece that gives an answer, and the rest
  pub piece_goes : {A B : Type 0} (m : Run A) (k : A → Run B) (now later : Summary) (a : A) → results program m now ≡ (Ok a, later) → results program (m >>= k) now ≡ results program (k a) later
  piece_goes m k now later a h = bind_results program m k now ∙ ap (λ x. next program x k) h

  pub piece_fails : {A B : Type 0} (m : Run A) (k : A → Run B) (now later : Summary) (f : Fault) → results program m now ≡ (Err f, later) → results program (m >>= k) now ≡ (Err f, later)
  piece_fails m k now later f h = bind_results program m k now ∙ ap (λ x. next program x k) h

  -- a piece that failed, or for which memory ran out
  pub gives_fails : (st : Stop) (m : Run ℤ) (k : ℤ → Run Next) (env : Env) (now later : Summary) → Gives (Err st) later (results program m now) → GivesNext (Err st) env later (results program (m >>= k) now)
  gives_fails (stop.Fault e) m k env now later h = piece_fails m k now later (fault_plain e) h
  gives_fails stop.NoMemory m k env now later h = tt

  pub does_fails_next : (st : Stop) (m : Run (Unit {0})) (k : Unit {0} → Run Next) (env : Env) (now later : Summary) → Does (Err st) later (results program m now) → GivesNext (Err st) env later (results program (m >>= k) now)
  does_fails_next (stop.Fault e) m k env now later h = piece_fails m k now later (fault_plain e) h
  does_fails_next stop.NoMemory m k env now later h = tt

  pub gives_fails_does : (st : Stop) (m : Run ℤ) (k : ℤ → Run (Unit {0})) (now later : Summary) → Gives (Err st) later (results program m now) → Does (Err st) later (results program (m >>= k) now)
  gives_fails_does (stop.Fault e) m k now later h = piece_fails m k now later (fault_plain e) h
  gives_fails_does stop.NoMemory m k now later h = tt

  pub fault_at : (st : Stop) (kind : FaultKind) (site : Site) → IsFault kind site.procedure site.statement st → HasFault st (fault_of kind site)
  fault_at (stop.Fault e) kind site h = h
  fault_at stop.NoMemory kind site h = tt

  -- ---- statements

  not_true : (b : Bool) (v : ℤ) → (b ≡ true → v ≡ pos 0) → (v ≡ pos 0 → ⊥) → b ≡ false
  not_true true v d n = absurd (n (d refl))
  not_true false v d n = refl

  pub not_zero : (v : ℤ) → (v ≡ pos 0 → ⊥) → int_eq v (pos 0) ≡ false
  not_zero v n = not_true (int_eq v (pos 0)) v (Decides-int_eq v (pos 0)).0 n

  module _ (tables : Tables) (enters : Enter) (site : Site) (env : Env) where
    pub choose_then : (e : Term) (a b : Body) (v : ℤ) (r : Result (Option ℤ) Stop) (env' : Env) (now later : Summary) → (value tables env e).answer ≡ Ok v → v ≡ pos 0 → GivesNext r env' later (results program (body program tables enters site.procedure env b) now) → GivesNext r env' later (results program (chosen program tables enters site env e a b) now)
    choose_then e a b v r env' now later h z g =
        subst (GivesNext r env' later) (sym (value_goes tables env e site now (λ v. cond (int_eq v (pos 0)) (body program tables enters site.procedure env b) (body program tables enters site.procedure env a)) v h ∙ ap (λ t. results program (cond t (body program tables enters site.procedure env b) (body program tables enters site.procedure env a)) now) (ap (λ x. int_eq x (pos 0)) z))) g

    pub choose_else : (e : Term) (a b : Body) (v : ℤ) (r : Result (Option ℤ) Stop) (env' : Env) (now later : Summary) → (value tables env e).answer ≡ Ok v → (v ≡ pos 0 → ⊥) → GivesNext r env' later (results program (body program tables enters site.procedure env a) now) → GivesNext r env' later (results program (chosen program tables enters site env e a b) now)
    choose_else e a b v r env' now later h z g =
        subst (GivesNext r env' later) (sym (value_goes tables env e site now (λ v. cond (int_eq v (pos 0)) (body program tables enters site.procedure env b) (body program tables enters site.procedure env a)) v h ∙ ap (λ t. results program (cond t (body program tables enters site.procedure env b) (body program tables enters site.procedure env a)) now) (not_zero v z))) g

    -- statements that begin with a value
    pub bind_goes : (x : ℕ) (e : Term) (v : ℤ) (now : Summary) → (value tables env e).answer ≡ Ok v → results program (bound tables site env x e) now ≡ (Ok (On (put env x v)), now)
    bind_goes x e v now h = value_goes tables env e site now (λ v. pure (On (put env x v))) v h

    pub give_goes : (e : Term) (v : ℤ) (now : Summary) → (value tables env e).answer ≡ Ok v → results program (back tables site env e) now ≡ (Ok (Back v), now)
    give_goes e v now h = value_goes tables env e site now (λ v. pure (Back v)) v h

    begin_fails : (e : Term) (k : ℤ → Run Next) (kind : FaultKind) (st : Stop) (env' : Env) (now : Summary) → (value tables env e).answer ≡ Err kind → IsFault kind site.procedure site.statement st → GivesNext (Err st) env' now (results program (at site (value tables env e) >>= k) now)
    begin_fails e k kind st env' now h f = next_fails st (fault_of kind site) env' now (results program (at site (value tables env e) >>= k) now) (fault_at st kind site f) (value_fails tables env e site now k kind h)

    pub bind_fails : (x : ℕ) (e : Term) (kind : FaultKind) (st : Stop) (env' : Env) (now : Summary) → (value tables env e).answer ≡ Err kind → IsFault kind site.procedure site.statement st → GivesNext (Err st) env' now (results program (bound tables site env x e) now)
    bind_fails x e kind st env' now h f = begin_fails e (λ v. pure (On (put env x v))) kind st env' now h f

    pub give_fails : (e : Term) (kind : FaultKind) (st : Stop) (env' : Env) (now : Summary) → (value tables env e).answer ≡ Err kind → IsFault kind site.procedure site.statement st → GivesNext (Err st) env' now (results program (back tables site env e) now)
    give_fails e kind st env' now h f = begin_fails e (λ v. pure (Back v)) kind st env' now h f

    pub choose_fails : (e : Term) (a b : Body) (kind : FaultKind) (st : Stop) (env' : Env) (now : Summary) → (value tables env e).answer ≡ Err kind → IsFault kind site.procedure site.statement st → GivesNext (Err st) env' now (results program (chosen program tables enters site env e a b) now)
    choose_fails e a b kind st env' now h f = begin_fails e (λ v. cond (int_eq v (pos 0)) (body program tables enters site.procedure env b) (body program tables enters site.procedure env a)) kind st env' now h f

    -- a call or a spawn
    pub enter_fails : (x : Option ℕ) (f : Name) (es : List Term) (vs : List ℤ) (st : Stop) (env' : Env) (now later : Summary) → (values tables env es).answer ≡ Ok vs → Gives (Err st) later (results program (enters site f vs) now) → GivesNext (Err st) env' later (results program (entered tables enters site env x f es) now)
    enter_fails x f es vs st env' now later h g =
        subst (GivesNext (Err st) env' later) (sym (values_goes tables env es site now (λ vs. enters site f vs >>= (λ v. pure (On (put_into x env v)))) vs h)) (gives_fails st (enters site f vs) (λ v. pure (On (put_into x env v))) env' now later g)

    pub enter_goes : (x : Option ℕ) (f : Name) (es : List Term) (vs : List ℤ) (v : ℤ) (now later : Summary) → (values tables env es).answer ≡ Ok vs → results program (enters site f vs) now ≡ (Ok v, later) → results program (entered tables enters site env x f es) now ≡ (Ok (On (put_into x env v)), later)
    enter_goes x f es vs v now later h g =
        values_goes tables env es site now (λ vs. enters site f vs >>= (λ v. pure (On (put_into x env v)))) vs h ∙ piece_goes (enters site f vs) (λ v. pure (On (put_into x env v))) now later v g

    -- arguments that have no values
    begin_troubled : (es : List Term) (k : List ℤ → Run Next) (tr : Trouble) (st : Stop) (env' : Env) (now : Summary) → EvaluatesAll (Err tr) (values tables env es).answer → IsTrouble tr site.procedure site.statement st → GivesNext (Err st) env' now (results program (at site (values tables env es) >>= k) now)
    begin_troubled es k (trouble.Fault kind) (stop.Fault e) env' now h f = next_fails (stop.Fault e) (fault_of kind site) env' now (results program (at site (values tables env es) >>= k) now) f (values_fails tables env es site now k kind h)
    begin_troubled es k (trouble.Fault kind) stop.NoMemory env' now h f = tt
    begin_troubled es k trouble.NoMemory (stop.Fault e) env' now h f = absurd f
    begin_troubled es k trouble.NoMemory stop.NoMemory env' now h f = tt

    pub enter_troubled : (x : Option ℕ) (f : Name) (es : List Term) (tr : Trouble) (st : Stop) (env' : Env) (now : Summary) → EvaluatesAll (Err tr) (values tables env es).answer → IsTrouble tr site.procedure site.statement st → GivesNext (Err st) env' now (results program (entered tables enters site env x f es) now)
    enter_troubled x f es tr st env' now h t = begin_troubled es (λ vs. enters site f vs >>= (λ v. pure (On (put_into x env v)))) tr st env' now h t

    -- an update
    update_results : (r : Name) (es : List Term) (now : Summary) → results program (at site (update_of tables (reducers program) env r es)) now ≡ (placed site (update_of tables (reducers program) env r es).answer, with_worths now (after (update_of tables (reducers program) env r es).log now.worths))
    update_results r es now = ap (λ x. (placed site (update_of tables (reducers program) env r es).answer, x)) (update_revalues program tables (reducers program) env r es now)

    update_then : (r : Name) (es : List Term) (now : Summary) (o : Result (Unit {0}) FaultKind × Accumulators) → outcome_of (update_of tables (reducers program) env r es) now.worths ≡ o
        → results program (updates_here program tables site env r es) now ≡ next program (placed site o.0, with_worths now o.1) (λ _. pure (On env))
    update_then r es now o h =
        bind_results program (at site (update_of tables (reducers program) env r es)) (λ _. pure (On env)) now
        ∙ ap (λ x. next program x (λ _. pure (On env))) (update_results r es now)
        ∙ ap (λ x. next program (placed site x.0, with_worths now x.1) (λ _. pure (On env))) h

    pub update_goes : (r : Name) (es : List Term) (now : Summary) (acc : Accumulators) → outcome_of (update_of tables (reducers program) env r es) now.worths ≡ (Ok tt, acc)
        → results program (updates_here program tables site env r es) now ≡ (Ok (On env), with_worths now acc)
    update_goes r es now acc h = update_then r es now (Ok tt, acc) h

    pub update_troubled : (r : Name) (es : List Term) (tr : Trouble) (st : Stop) (env' : Env) (now : Summary) (acc : Accumulators) → Notes (Err tr) acc (outcome_of (update_of tables (reducers program) env r es) now.worths) → IsTrouble tr site.procedure site.statement st
        → GivesNext (Err st) env' (with_worths now acc) (results program (updates_here program tables site env r es) now)
    update_troubled r es (trouble.Fault kind) (stop.Fault e) env' now acc h f = update_then r es now (Err kind, acc) h ∙ ap (λ x. (Err x, with_worths now acc)) (sym f)
    update_troubled r es (trouble.Fault kind) stop.NoMemory env' now acc h f = tt
    update_troubled r es trouble.NoMemory (stop.Fault e) env' now acc h f = absurd f
    update_troubled r es trouble.NoMemory stop.NoMemory env' now acc h f = tt

    -- a loop
    abbrev with_range : ℕ → ℕ → Name → List Term → ℤ × ℕ → Run Next
    with_range x grain g es range = all_turns program tables enters (job_of site env x g es grain range.0) range.1 >>= (λ _. pure (On env))

    pub loop_reaches : (x : ℕ) (e f : Term) (grain : ℕ) (g : Name) (es : List Term) (low : ℤ) (count : ℕ) (now : Summary) → (bounds tables env e f).answer ≡ Ok (low, count)
        → results program (looped program tables enters site env x e f grain g es) now ≡ results program (with_range x grain g es (low, count)) now
    loop_reaches x e f grain g es low count now h =
        bind_results program (at site (bounds tables env e f)) (with_range x grain g es) now ∙ ap (λ r. next program r (with_range x grain g es)) (bounds_results program tables env e f site now) ∙ ap (λ r. next program (placed site r, now) (with_range x grain g es)) h

    pub loop_bad : (x : ℕ) (e f : Term) (grain : ℕ) (g : Name) (es : List Term) (kind : FaultKind) (st : Stop) (env' : Env) (now : Summary) → (bounds tables env e f).answer ≡ Err kind → IsFault kind site.procedure site.statement st
        → GivesNext (Err st) env' now (results program (looped program tables enters site env x e f grain g es) now)
    loop_bad x e f grain g es kind st env' now h t =
        next_fails st (fault_of kind site) env' now (results program (looped program tables enters site env x e f grain g es) now) (fault_at st kind site t)
        (bind_results program (at site (bounds tables env e f)) (with_range x grain g es) now ∙ ap (λ r. next program r (with_range x grain g es)) (bounds_results program tables env e f site now) ∙ ap (λ r. next program (placed site r, now) (with_range x grain g es)) h)

    pub loop_fails : (x : ℕ) (e f : Term) (grain : ℕ) (g : Name) (es : List Term) (low : ℤ) (count : ℕ) (st : Stop) (env' : Env) (now later : Summary) → (bounds tables env e f).answer ≡ Ok (low, count)
        → Does (Err st) later (results program (all_turns program tables enters (job_of site env x g es grain low) count) now) → GivesNext (Err st) env' later (results program (looped program tables enters site env x e f grain g es) now)
    loop_fails x e f grain g es low count st env' now later h t =
        subst (GivesNext (Err st) env' later) (sym (loop_reaches x e f grain g es low count now h)) (does_fails_next st (all_turns program tables enters (job_of site env x g es grain low) count) (λ _. pure (On env)) env' now later t)

    pub loop_goes : (x : ℕ) (e f : Term) (grain : ℕ) (g : Name) (es : List Term) (low : ℤ) (count : ℕ) (now later : Summary) → (bounds tables env e f).answer ≡ Ok (low, count)
        → results program (all_turns program tables enters (job_of site env x g es grain low) count) now ≡ (Ok tt, later) → results program (looped program tables enters site env x e f grain g es) now ≡ (Ok (On env), later)
    loop_goes x e f grain g es low count now later h t =
        loop_reaches x e f grain g es low count now h ∙ piece_goes (all_turns program tables enters (job_of site env x g es grain low) count) (λ _. pure (On env)) now later tt t

  -- ---- iterations

  inner : {B C : Type 0} (r : Result B Fault × Summary) (k : Run C) → next program r (λ _. k) ≡ next program (next program r (λ _. nothing)) (λ _. k)
  inner (Ok b, now) k = refl
  inner (Err e, now) k = refl

  outer : {A B C : Type 0} (c : Result A Fault × Summary) (f : A → Run B) (k : Run C) → next program c (λ a. f a >>= (λ _. k)) ≡ next program (next program c (λ a. f a >>= (λ _. nothing))) (λ _. k)
  outer (Ok a, now) f k = bind_results program (f a) (λ _. k) now ∙ inner (results program (f a) now) k ∙ ap (λ r. next program r (λ _. k)) (sym (bind_results program (f a) (λ _. nothing) now))
  outer (Err e, now) f k = refl

  then_all : {A B C : Type 0} (m : Run A) (f : A → Run B) (k : Run C) (now : Summary) → results program (m >>= (λ a. f a >>= (λ _. k))) now ≡ next program (results program (m >>= (λ a. f a >>= (λ _. nothing))) now) (λ _. k)
  then_all m f k now = bind_results program m (λ a. f a >>= (λ _. k)) now ∙ outer (results program m now) f k ∙ ap (λ r. next program r (λ _. k)) (sym (bind_results program m (λ a. f a >>= (λ _. nothing)) now))

  module _ (tables : Tables) (enters : Enter) (job : Job) where
    pub turns_begin : (count : ℕ) (now : Summary) → results program (all_turns program tables enters job count) now ≡ results program (turns program tables enters job (count - 0) 0) now
    unfolding all_turns
    turns_begin count now =
        let e : count - 0 ≡ count = omega arith in
        ap (λ n. results program (turns program tables enters job n 0) now) (sym e)

    one_more : (n i : ℕ) (now : Summary) → results program (turns program tables enters job (suc n) i) now ≡ next program (results program (turn tables enters job i) now) (λ _. turns program tables enters job n (suc i))
    one_more n i now = then_all (at job.site (turn_values tables job i)) (enters job.site job.callee) (turns program tables enters job n (suc i)) now

    turns_left : (count i : ℕ) (now : Summary) → i < count → results program (turns program tables enters job (count - i) i) now ≡ next program (results program (turn tables enters job i) now) (λ _. turns program tables enters job (count - (i + 1)) (i + 1))
    turns_left count i now lt =
        let e : suc (count - (i + 1)) ≡ count - i = omega (arith, lt) in
        let a : suc i ≡ i + 1 = omega arith in
        subst (λ n. results program (turns program tables enters job n i) now ≡ next program (results program (turn tables enters job i) now) (λ _. turns program tables enters job (count - (i + 1)) (i + 1))) e
        (subst (λ m. results program (turns program tables enters job (suc (count - (i + 1))) i) now ≡ next program (results program (turn tables enters job i) now) (λ _. turns program tables enters job (count - (i + 1)) m)) a (one_more (count - (i + 1)) i now))

    pub turns_go : (count i : ℕ) (now later : Summary) → i < count → results program (turn tables enters job i) now ≡ (Ok tt, later) → results program (turns program tables enters job (count - i) i) now ≡ results program (turns program tables enters job (count - (i + 1)) (i + 1)) later
    turns_go count i now later lt h = turns_left count i now lt ∙ ap (λ r. next program r (λ _. turns program tables enters job (count - (i + 1)) (i + 1))) h

    pub turns_fail : (count i : ℕ) (st : Stop) (now later : Summary) (o : Result (Unit {0}) Fault × Summary) → i < count → o ≡ results program (turns program tables enters job (count - i) i) now → Does (Err st) later (results program (turn tables enters job i) now) → Does (Err st) later o
    turns_fail count i (stop.Fault e) now later o lt p h = p ∙ turns_left count i now lt ∙ ap (λ r. next program r (λ _. turns program tables enters job (count - (i + 1)) (i + 1))) h
    turns_fail count i stop.NoMemory now later o lt p h = tt

    pub turn_troubled : (i : ℕ) (tr : Trouble) (st : Stop) (now : Summary) → EvaluatesAll (Err tr) (turn_values tables job i).answer → IsTrouble tr job.site.procedure job.site.statement st → through program (turn_values tables job i).log now ≡ now → Does (Err st) now (results program (turn tables enters job i) now)
    turn_troubled i (trouble.Fault kind) (stop.Fault e) now h f q =
        bind_results program (at job.site (turn_values tables job i)) (λ vs. enters job.site job.callee vs >>= (λ _. nothing)) now
        ∙ ap (λ a. next program (placed job.site (turn_values tables job i).answer, a) (λ vs. enters job.site job.callee vs >>= (λ _. nothing))) q
        ∙ ap (λ r. next program (placed job.site r, now) (λ vs. enters job.site job.callee vs >>= (λ _. nothing))) h
        ∙ ap (λ x. (Err x, now)) (sym f)
    turn_troubled i (trouble.Fault kind) stop.NoMemory now h f q = tt
    turn_troubled i trouble.NoMemory (stop.Fault e) now h f q = absurd f
    turn_troubled i trouble.NoMemory stop.NoMemory now h f q = tt

    turn_begins : (i : ℕ) (vs : List ℤ) (now : Summary) → (turn_values tables job i).answer ≡ Ok vs → through program (turn_values tables job i).log now ≡ now
        → results program (turn tables enters job i) now ≡ results program (enters job.site job.callee vs >>= (λ _. nothing)) now
    turn_begins i vs now h q =
        bind_results program (at job.site (turn_values tables job i)) (λ vs. enters job.site job.callee vs >>= (λ _. nothing)) now
        ∙ ap (λ a. next program (placed job.site (turn_values tables job i).answer, a) (λ vs. enters job.site job.callee vs >>= (λ _. nothing))) q
        ∙ ap (λ r. next program (placed job.site r, now) (λ vs. enters job.site job.callee vs >>= (λ _. nothing))) h

    pub turn_goes : (i : ℕ) (vs : List ℤ) (v : ℤ) (now later : Summary) → (turn_values tables job i).answer ≡ Ok vs → through program (turn_values tables job i).log now ≡ now → results program (enters job.site job.callee vs) now ≡ (Ok v, later)
        → results program (turn tables enters job i) now ≡ (Ok tt, later)
    turn_goes i vs v now later h q g = turn_begins i vs now h q ∙ piece_goes (enters job.site job.callee vs) (λ _. nothing) now later v g

    pub turn_fails : (i : ℕ) (vs : List ℤ) (st : Stop) (now later : Summary) → (turn_values tables job i).answer ≡ Ok vs → through program (turn_values tables job i).log now ≡ now → Gives (Err st) later (results program (enters job.site job.callee vs) now)
        → Does (Err st) later (results program (turn tables enters job i) now)
    turn_fails i vs st now later h q g = subst (Does (Err st) later) (sym (turn_begins i vs now h q)) (gives_fails_does st (enters job.site job.callee vs) (λ _. nothing) now later g)

  -- a statement that goes on, and the rest of the block
  pub rest_goes : (tables : Tables) (enters : Enter) (here : Name) (n : ℕ) (env env' : Env) (d : Deed) (rest : Body) (now later : Summary) → results program (deed program tables enters (record { procedure = here; statement = n }) env d) now ≡ (Ok (On env'), later) → results program (body program tables enters here env (step n d rest)) now ≡ results program (body program tables enters here env' rest) later
  rest_goes tables enters here n env env' d rest now later h = piece_goes (deed program tables enters (record { procedure = here; statement = n }) env d) (λ further. go_on further (λ e. body program tables enters here e rest)) now later (On env') h

  pub rest_item : (tables : Tables) (enters : Enter) (here : Name) (inner : ℕ → Body) (ss : List Statement) (i : ℕ) (s : Statement) (env env' : Env) (now later : Summary) → i < length ss → s ≡ get_or ss i s → results program (deed program tables enters (record { procedure = here; statement = s.number }) env (deed_plain inner s.action)) now ≡ (Ok (On env'), later) → results program (body program tables enters here env (statements_plain inner (drop i ss))) now ≡ results program (body program tables enters here env' (statements_plain inner (drop (i + 1) ss))) later
  rest_item tables enters here inner ss i s env env' now later lt e h =
      let d : drop i ss ≡ s ∷ drop (suc i) ss = drop-cons ss i s lt ∙ ap (λ x. x ∷ drop (suc i) ss) (sym e) in
      rw add-one (ap (λ xs. results program (body program tables enters here env (statements_plain inner xs)) now) d ∙ rest_goes tables enters here s.number env env' (deed_plain inner s.action) (statements_plain inner (drop (suc i) ss)) now later h)

-- ---- entering

module _ (revised : Revised) (tables : Tables) (records : List Kept) where
  needing_deepest : (left : ℕ) (site : Site) (f : Name) (args : List ℤ) (now : Summary) → left ≡ 0
      → results revised.tree (needing revised tables records left site f args) now ≡ (Err (fault_of TooDeep site), now)
  unfolding needing
  needing_deepest zero site f args now z = refl
  needing_deepest (suc left) site f args now z = absurd (omega (arith, z))

  pub enter_deep : (left : ℕ) (site : Site) (f : Name) (args : List ℤ) (st : Stop) (now : Summary) → left ≡ 0 → IsFault TooDeep site.procedure site.statement st
      → Gives (Err st) now (results revised.tree (needing revised tables records left site f args) now)
  enter_deep left site f args (stop.Fault e) now z h = needing_deepest left site f args now z ∙ ap (λ x. (Err x, now)) (sym h)
  enter_deep left site f args stop.NoMemory now z h = tt

  -- an instance where so many levels are left below it
  abbrev below : ℕ → Name → List ℤ → Proc → Run ℤ
  below left f args p = instance revised.tree tables (needing revised tables records left) f args (depth_limit - left) p

  abbrev entry : ℕ → Name → List ℤ → Option Proc → Run ℤ
  entry left f args q = answered revised tables records f args (cond (is_memo q) (if_valid revised tables (depth_limit - left) (record_of records f args)) None) (below left f args (found q))

  needing_steps : (left : ℕ) (site : Site) (f : Name) (args : List ℤ) (now : Summary) → 0 < left
      → results revised.tree (needing revised tables records left site f args) now ≡ results revised.tree (entry (left - 1) f args (procedure_of revised.tree f)) now
  unfolding needing
  needing_steps zero site f args now nz = absurd (omega (arith, nz))
  needing_steps (suc left) site f args now nz =
      let e : suc left - 1 ≡ left = omega arith in
      ap (λ n. results revised.tree (entry n f args (procedure_of revised.tree f)) now) (sym e)

  below_is : (left : ℕ) (f : Name) (args : List ℤ) (p : Proc) (now : Summary) (b : Bool) → is_memo (procedure_of revised.tree f) ≡ b
      → results revised.tree (below left f args p) now ≡ results revised.tree (inside revised.tree tables (needing revised tables records left) p args) (cond b (with_executed now (f, args)) now)
  below_is left f args p now b h =
      piece_goes revised.tree (note (Enters f args (depth_limit - left))) (λ _. inside revised.tree tables (needing revised tables records left) p args) now (cond (is_memo (procedure_of revised.tree f)) (with_executed now (f, args)) now) tt refl
      ∙ ap (λ c. results revised.tree (inside revised.tree tables (needing revised tables records left) p args) (cond c (with_executed now (f, args)) now)) h

  answered_is : (o : Option Kept) (left : ℕ) (f : Name) (args : List ℤ) (p : Proc) (now : Summary) → is_memo (procedure_of revised.tree f) ≡ true
      → results revised.tree (answered revised tables records f args o (below left f args p)) now ≡ memoised revised.tree o (f, args) (inside revised.tree tables (needing revised tables records left) p args) now
  answered_is None left f args p now h = below_is left f args p now true h
  answered_is (Some k) left f args p now h = refl

  pub enter_absent : (left : ℕ) (site : Site) (f : Name) (args : List ℤ) (now : Summary) → 0 < left → procedure_of revised.tree f ≡ None
      → results revised.tree (needing revised tables records left site f args) now ≡ (Ok (pos 0), now)
  enter_absent left site f args now nz h =
      needing_steps left site f args now nz ∙ ap (λ q. results revised.tree (entry (left - 1) f args q) now) h ∙ below_is (left - 1) f args absent now false (ap is_memo h)

  pub enter_plain : (left : ℕ) (site : Site) (f : Name) (args : List ℤ) (p : Proc) (r : Result ℤ Stop) (now later : Summary) → 0 < left → procedure_of revised.tree f ≡ Some p → p.memo ≡ false
      → Gives r later (results revised.tree (inside revised.tree tables (needing revised tables records (left - 1)) p args) now) → Gives r later (results revised.tree (needing revised tables records left site f args) now)
  enter_plain left site f args p r now later nz h m g =
      subst (Gives r later) (sym (
      needing_steps left site f args now nz ∙ ap (λ q. results revised.tree (entry (left - 1) f args q) now) h
      ∙ ap (λ b. results revised.tree (answered revised tables records f args (cond b (if_valid revised tables (depth_limit - (left - 1)) (record_of records f args)) None) (below (left - 1) f args p)) now) m
      ∙ below_is (left - 1) f args p now false (ap is_memo h ∙ m))) g

  pub enter_memo : (left : ℕ) (site : Site) (f : Name) (args : List ℤ) (p : Proc) (r : Result ℤ Stop) (now later : Summary) → 0 < left → procedure_of revised.tree f ≡ Some p → p.memo ≡ true
      → Gives r later (memoised revised.tree (if_valid revised tables (depth_limit - (left - 1)) (record_of records f args)) (f, args) (inside revised.tree tables (needing revised tables records (left - 1)) p args) now)
      → Gives r later (results revised.tree (needing revised tables records left site f args) now)
  enter_memo left site f args p r now later nz h m g =
      subst (Gives r later) (sym (
      needing_steps left site f args now nz ∙ ap (λ q. results revised.tree (entry (left - 1) f args q) now) h
      ∙ ap (λ b. results revised.tree (answered revised tables records f args (cond b (if_valid revised tables (depth_limit - (left - 1)) (record_of records f args)) None) (below (left - 1) f args p)) now) m
      ∙ answered_is (if_valid revised tables (depth_limit - (left - 1)) (record_of records f args)) (left - 1) f args p now (ap is_memo h ∙ m))) g
