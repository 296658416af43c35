-- An elision that takes other instances beside the trail: where its instances execute and reuse what the trail's marks say, so does each piece of it.
use Rattle.std.proofs.Common.{ℕ, zero, suc, ◌+◌, ◌-◌, List, [], ◌∷◌, ◌++◌, Option, Some, None, Result, Ok, Err, ℤ, pos, ◌≡◌, refl, sym, ap, ◌∙◌, subst, arith, append-nil, true, false, Bool, cond}
use Rattle.std.specs.Prelude.{nat_le, ◌/◌, ◌+ℤ◌}
use Rattle.std.specs.Ordering.{int_eq}
use Rattle.std.proofs.Math.Nat.{div-le_self}
use Rattle.meaning.specs.Tree.{Name, Deed, bind, enter, read, sync, update, choose, loop, give, Body, end, step, Tree}
use Rattle.meaning.specs.declared.tree.Way.TheVariants.{Call, Spawn}
use Rattle.meaning.specs.declared.FaultKind.{FaultKind}
use Rattle.meaning.specs.declared.FaultKind.TheVariants.{TooDeep}
use Rattle.meaning.specs.Tables.{Tables}
use Rattle.meaning.specs.Outcome.{Log, Accumulators, Fault, Site, Outcome, Place, Begins, Syncs, Leaves, Faults, Spawns, Out, onward, after}
use Rattle.meaning.specs.Run.{Run, placed, at, pure, ◌>>=◌}
use Rattle.meaning.specs.Values.{Env, put, value, values}
use Rattle.meaning.specs.Statements.{reducers, Job, job_of, put_into, update_of, bounds, turn_values}
use Rattle.meaning.specs.Elision.{Enter, Next, On, Back, turns, all_turns, deed, body, depth_limit}
use Rattle.meaning.specs.Trail.{Trace, led, child_of, fault_at, env_after, doom_after, after_answer, evaluated, Go, Runner, entering, after_call, after_spawn, over, turns_walk, half_closed, loop_walk, half_run, halvings, deed_walk, body_walk}
use Rattle.trail_theory.specs.ElisionBeside.{first_fault, before_fault}
use Rattle.trail_theory.specs.Order.{Every}
use Rattle.trail_theory.specs.Waiting.{NoReadsDeed, NoReads}
use Rattle.trail_theory.specs.ReadsAtEnd.{IsOther, EntersOnlyDeed, EntersOnly}
use Rattle.trail_theory.specs.Counts.{SameKeys}
use Rattle.trail_theory.proofs.Evaluations.{Told, Calm, calm_value, calm_values, calm_update, calm_bounds}
use Rattle.trail_theory.proofs.Walks.{Opens, half_opens, GoodRuns, has_body}
use Rattle.trail_theory.proofs.Inside.{doomed}
use Rattle.trail_theory.proofs.FirstFaults.{quiet_first, told_none, before_append, before_first, first_kept}
use Rattle.trail_theory.proofs.Keys.{keys_join, told_keys, unmarked_keys}
use Rattle.trail_theory.proofs.Elides.{bind_assoc, finish, step_apart, plain, plain_bind, plain_of, plain_split}

-- an instance beside its stretch of the trail: the same number, or the stretch's first fault, and the same keys up to there
abbrev pub NeedsAs : Tree → Out Fault ℤ → Log → Outcome → Type 0
NeedsAs program o es (Ok v) = (o.answer ≡ Ok v) × (SameKeys program o.log es × (first_fault es ≡ None))
NeedsAs program o es (Err k) = (o.answer ≡ Err k) × (SameKeys program o.log (before_fault es) × (first_fault es ≡ Some k))

abbrev pub Needs : Tree → Out Fault ℤ → Trace → Type 0
Needs program o r = NeedsAs program o r.events r.outcome

-- what may be known of a piece beside its stretch of the trail
pub record IsGoal (program : Tree) (Goal : Out Fault ℤ → Trace → Type 0) : Type 0 where
  pub leads : (log es : Log) (o : Out Fault ℤ) (r : Trace) → SameKeys program log es → first_fault es ≡ None → Goal o r → Goal (record { log = log ++ o.log; answer = o.answer }) (led es r)
  pub stops : (log : Log) (k : Fault) → Every Told log → Goal (record { log = log; answer = Err k }) (record { events = log ++ Faults k ∷ []; outcome = Err k })
  pub fails : (log es : Log) (k : Fault) (r : Trace) → SameKeys program log (before_fault es) → first_fault es ≡ Some k → r.outcome ≡ Err k → Goal (record { log = log; answer = Err k }) (led es r)
  pub overs : (n : Place) (v : ℤ) → Goal (record { log = []; answer = Ok v }) (over n None v)

module _ (program : Tree) where
  stopped_keys : (log : Log) (k : Fault) → Every Told log → SameKeys program log (before_fault (log ++ Faults k ∷ []))
  stopped_keys log k t = subst (SameKeys program log) (sym (before_append log (Faults k ∷ []) (told_none log t) ∙ append-nil log)) (told_keys program log t)

  pub needs_led : (p q : Log) (o : Out Fault ℤ) (es : Log) (out : Outcome) → SameKeys program p q → first_fault q ≡ None → NeedsAs program o es out → NeedsAs program (record { log = p ++ o.log; answer = o.answer }) (q ++ es) out
  needs_led p q o es (Ok v) k z h = (h.0, (keys_join program p o.log q es k h.1.0, quiet_first q es z ∙ h.1.1))
  needs_led p q o es (Err j) k z h = (h.0, (subst (SameKeys program (p ++ o.log)) (sym (before_append q es z)) (keys_join program p o.log q (before_fault es) k h.1.0), quiet_first q es z ∙ h.1.1))

  needs_failed : (log es : Log) (k : Fault) (r : Trace) → SameKeys program log (before_fault es) → first_fault es ≡ Some k → r.outcome ≡ Err k → Needs program (record { log = log; answer = Err k }) (led es r)
  needs_failed log es k r h z e =
      subst (λ w. NeedsAs program (record { log = log; answer = Err k }) (es ++ r.events) w) (sym e) (refl, (subst (SameKeys program log) (sym (before_first es r.events k z)) h, first_kept es r.events k z))

  pub needs_goal : IsGoal program (Needs program)
  needs_goal =
      record {
        leads = λ log es o r k z h. needs_led log es o r.events r.outcome k z h;
        stops = λ log k t. (refl, (stopped_keys log k t, quiet_first log (Faults k ∷ []) (told_none log t)));
        fails = needs_failed;
        overs = λ n v. (refl, (record { executed_are = refl; reused_are = refl }, refl));
      }

  -- the keys alone
  abbrev pub KeysOnly : Out Fault ℤ → Trace → Type 0
  KeysOnly o r = SameKeys program o.log (before_fault r.events)

  pub keys_goal : IsGoal program KeysOnly
  keys_goal =
      record {
        leads = λ log es o r k z h. subst (SameKeys program (log ++ o.log)) (sym (before_append es r.events z)) (keys_join program log o.log es (before_fault r.events) k h);
        stops = λ log k t. stopped_keys log k t;
        fails = λ log es k r h z e. subst (SameKeys program log) (sym (before_first es r.events k z)) h;
        overs = λ n v. record { executed_are = refl; reused_are = refl };
      }

  pub needs_closed : (o : Out Fault ℤ) (n : Place) (es : Log) (out : Outcome) → NeedsAs program o es out → NeedsAs program o (es ++ Leaves n out ∷ []) out
  needs_closed o n es (Ok v) h =
      let last : SameKeys program [] (Leaves n (Ok v) ∷ []) = record { executed_are = refl; reused_are = refl } in
      (h.0, (subst (λ l. SameKeys program l (es ++ Leaves n (Ok v) ∷ [])) (append-nil o.log) (keys_join program o.log [] es (Leaves n (Ok v) ∷ []) h.1.0 last), quiet_first es (Leaves n (Ok v) ∷ []) h.1.1))
  needs_closed o n es (Err k) h = (h.0, (subst (SameKeys program o.log) (sym (before_first es (Leaves n (Err k) ∷ []) k h.1.1)) h.1.0, first_kept es (Leaves n (Err k) ∷ []) k h.1.1))

  needs_begun : (o : Out Fault ℤ) (n : Place) (d : ℕ) (es : Log) (out : Outcome) → NeedsAs program o es out → NeedsAs program o (Begins n d ∷ es) out
  needs_begun o n d es (Ok v) h = (h.0, (record { executed_are = h.1.0.executed_are; reused_are = h.1.0.reused_are }, h.1.1))
  needs_begun o n d es (Err k) h = (h.0, (record { executed_are = h.1.0.executed_are; reused_are = h.1.0.reused_are }, h.1.1))

module _ (program : Tree) (tables : Tables) (sight : Accumulators) (enters : Enter) (sub : Runner) where
  -- the instances of the procedures other than main
  abbrev pub NeedsRuns : Runner → Type 0
  NeedsRuns None = (site : Site) (f : Name) (vs : List ℤ) (acc : Accumulators) → enters site f vs acc ≡ record { log = []; answer = Err (fault_at site TooDeep) }
  NeedsRuns (Some go) = (site : Site) (f : Name) (vs : List ℤ) (n : Place) (acc : Accumulators) → IsOther f → Needs program (enters site f vs acc) (go f vs n)

  module _ (Goal : Out Fault ℤ → Trace → Type 0) (g : IsGoal program Goal) where
    -- an evaluation, and then the rest
    eval_goal : {A : Type 0} (site : Site) (o : Out FaultKind A) (f : A → Run ℤ) (acc : Accumulators) (next : A → Trace) → Calm o → ((a : A) (acc : Accumulators) → Goal (f a acc) (next a)) → Goal ((at site o >>= f) acc) (evaluated None site o next)
    eval_goal site o f acc next calm h = eval_at o.log o.answer calm
      where
        eval_at : (log : Log) (r : Result _ FaultKind) → Every Told log → Goal (onward log (placed site r) (λ a. f a (after log acc))) (led log (after_answer None site r next))
        eval_at log (Err k) t = g.stops log (fault_at site k) t
        eval_at log (Ok a) t = g.leads log log (f a (after log acc)) (next a) (told_keys program log t) (told_none log t) (h a (after log acc))

    -- a child, and then the rest
    call_goal : (o : Out Fault ℤ) (es : Log) (out : Outcome) (f : ℤ → Run ℤ) (acc : Accumulators) (next : ℤ → Trace) → NeedsAs program o es out → ((v : ℤ) (acc : Accumulators) → Goal (f v acc) (next v)) → Goal (onward o.log o.answer (λ a. f a (after o.log acc))) (after_call None (record { events = es; outcome = out }) next)
    call_goal o es (Ok v) f acc next e h =
        subst (λ a. Goal (onward o.log a (λ a. f a (after o.log acc))) (led es (next v))) (sym e.0) (g.leads o.log es (f v (after o.log acc)) (next v) e.1.0 e.1.1 (h v (after o.log acc)))
    call_goal o es (Err k) f acc next e h =
        subst (λ a. Goal (onward o.log a (λ a. f a (after o.log acc))) (led es (record { events = []; outcome = Err k }))) (sym e.0) (g.fails o.log es k (record { events = []; outcome = Err k }) e.1.0 e.1.1 refl)

    spawn_goal : (p : Place) (o : Out Fault ℤ) (es : Log) (out : Outcome) (f : ℤ → Run ℤ) (acc : Accumulators) (next : Outcome → Trace) → NeedsAs program o es out → ((v : ℤ) (acc : Accumulators) → Goal (f v acc) (next (Ok v))) → ((k : Fault) → (next (Err k)).outcome ≡ Err k)
        → Goal (onward o.log o.answer (λ a. f a (after o.log acc))) (after_spawn p (record { events = es; outcome = out }) next)
    spawn_goal p o es (Ok v) f acc next e h d =
        let keys : SameKeys program o.log (Spawns p ∷ es) = record { executed_are = e.1.0.executed_are; reused_are = e.1.0.reused_are } in
        subst (λ a. Goal (onward o.log a (λ a. f a (after o.log acc))) (led (Spawns p ∷ es) (next (Ok v)))) (sym e.0) (g.leads o.log (Spawns p ∷ es) (f v (after o.log acc)) (next (Ok v)) keys e.1.1 (h v (after o.log acc)))
    spawn_goal p o es (Err k) f acc next e h d =
        let keys : SameKeys program o.log (before_fault (Spawns p ∷ es)) = record { executed_are = e.1.0.executed_are; reused_are = e.1.0.reused_are } in
        subst (λ a. Goal (onward o.log a (λ a. f a (after o.log acc))) (led (Spawns p ∷ es) (next (Err k)))) (sym e.0) (g.fails o.log (Spawns p ∷ es) k (next (Err k)) keys e.1.1 (d k))

    enter_goal : (r : Runner) → NeedsRuns r → (site : Site) (f : Name) → IsOther f → (vs : List ℤ) (kont : ℤ → Run ℤ) (acc : Accumulators) (next : Go → Trace)
        → ((go : Go) → ((n : Place) (acc : Accumulators) → Needs program (enters site f vs acc) (go f vs n)) → Goal ((enters site f vs >>= kont) acc) (next go)) → Goal ((enters site f vs >>= kont) acc) (entering None site r next)
    enter_goal None e site f other vs kont acc next h =
        let k = fault_at site TooDeep in
        subst (λ o. Goal (onward o.log o.answer (λ a. kont a (after o.log acc))) (record { events = Faults k ∷ []; outcome = Err k })) (sym (e site f vs acc)) (g.stops [] k tt)
    enter_goal (Some go) e site f other vs kont acc next h = h go (λ n acc. e site f vs n acc other)

  abbrev iterations : Job → ℕ → ℕ → Run ℤ → Run ℤ
  iterations job count i k = plain IsOther program tables sight enters sub job count i k

  module _ (good : NeedsRuns sub) where
    abbrev N : Out Fault ℤ → Trace → Type 0
    N = Needs program

    turns_need : (job : Job) → IsOther job.callee → (count i : ℕ) (n : Place) (c : ℕ) (acc : Accumulators) → N (iterations job count i (pure (pos 0)) acc) (turns_walk program tables sight sub job count i n c None)
    turns_need job other zero i n c acc = (needs_goal program).overs n (pos 0)
    turns_need job other (suc count) i n c acc =
        eval_goal N (needs_goal program) job.site (turn_values tables job i) (λ vs. enters job.site job.callee vs >>= (λ v. iterations job count (suc i) (pure (pos 0)))) acc _ (calm_values tables (put job.env job.variable (job.low +ℤ pos i)) job.args) (λ vs acc'.
        enter_goal N (needs_goal program) sub good job.site job.callee other vs (λ v. iterations job count (suc i) (pure (pos 0))) acc' _ (λ go e.
        let r = go job.callee vs (child_of n c) in
        call_goal N (needs_goal program) (enters job.site job.callee vs acc') r.events r.outcome (λ v. iterations job count (suc i) (pure (pos 0))) acc' (λ v. turns_walk program tables sight sub job count (suc i) n (suc c) None) (e (child_of n c) acc') (λ v acc''. turns_need job other count (suc i) n (suc c) acc'')))

    cond_need : (b : Bool) (o : Out Fault ℤ) (x y : Trace) → N o x → N o y → N o (cond b x y)
    cond_need true o x y h k = h
    cond_need false o x y h k = k

    half_need : (left : ℕ) (o : Out Fault ℤ) (n : Place) (es : Log) (out : Outcome) → NeedsAs program o es out → N o (half_closed program tables sight sub left n (record { events = es; outcome = out }))
    half_need left o n es out h = needs_begun program o n (depth_limit - left) (es ++ Leaves n out ∷ []) out (needs_closed program o n es out h)

    call_doomed : (n : Place) (d : Fault) (es : Log) (o : Outcome) → (after_call (Some d) (record { events = es; outcome = o }) (λ v. over n (Some d) (pos 0))).outcome ≡ Err d
    call_doomed n d es (Ok v) = refl
    call_doomed n d es (Err j) = refl

    -- a loop by halves is the plain loop
    loop_need : (left k : ℕ) (job : Job) → IsOther job.callee → (count i : ℕ) (n : Place) (c : ℕ) (acc : Accumulators) → N (iterations job count i (pure (pos 0)) acc) (loop_walk program tables sight sub left k job count i n c None)
    loop_need left zero job other count i n c acc = turns_need job other count i n c acc
    loop_need left (suc k) job other count i n c acc =
        let a = count / 2 in
        let b = count - count / 2 in
        let whole : a + b ≡ count = omega (arith, div-le_self count 2) in
        let x = loop_walk program tables sight sub left k job a i (child_of n c) 1 None in
        let y = loop_walk program tables sight sub left k job b (i + a) (child_of n (suc c)) 1 None in
        let first = half_closed program tables sight sub left (child_of n c) x in
        let second = half_closed program tables sight sub left (child_of n (suc c)) y in
        let f = λ (v : ℤ). iterations job b (i + a) (pure (pos 0)) in
        let e : iterations job count i (pure (pos 0)) ≡ (iterations job a i (pure (pos 0)) >>= f) = ap (λ m. iterations job m i (pure (pos 0))) (sym whole) ∙ plain_split IsOther program tables sight enters sub job a b i (pure (pos 0)) ∙ sym (plain_bind IsOther program tables sight enters sub job a i (pure (pos 0)) f) in
        let next = λ (o : Outcome). after_call (doom_after None o) second (λ v. over n (doom_after None o) (pos 0)) in
        let last : (acc : Accumulators) → N (iterations job b (i + a) (pure (pos 0)) acc) (next (Ok (pos 0))) = λ acc. subst (λ m. N (m acc) (next (Ok (pos 0)))) (plain_bind IsOther program tables sight enters sub job b (i + a) (pure (pos 0)) (λ v. pure (pos 0)))
        (call_goal N (needs_goal program) (iterations job b (i + a) (pure (pos 0)) acc) second.events second.outcome (λ v. pure (pos 0)) acc (λ v. over n None (pos 0)) (half_need left (iterations job b (i + a) (pure (pos 0)) acc) (child_of n (suc c)) y.events y.outcome (loop_need left k job other b (i + a) (child_of n (suc c)) 1 acc)) (λ v acc'. (needs_goal program).overs n (pos 0))) in
        cond_need (nat_le count job.grain) (iterations job count i (pure (pos 0)) acc) _ _ (turns_need job other count i n c acc)
        (subst (λ m. N (m acc) (after_spawn (child_of n c) first next)) (sym e)
        (spawn_goal N (needs_goal program) (child_of n c) (iterations job a i (pure (pos 0)) acc) first.events first.outcome f acc next (half_need left (iterations job a i (pure (pos 0)) acc) (child_of n c) x.events x.outcome (loop_need left k job other a i (child_of n c) 1 acc)) (λ v acc'. last acc') (λ d. call_doomed n d second.events second.outcome)))

    module _ (Goal : Out Fault ℤ → Trace → Type 0) (g : IsGoal program Goal) where
      either_goal : (b : Bool) (x y : Run Next) (kont : Env → Run ℤ) (acc : Accumulators) (p q : Trace) → Goal ((x >>= finish kont) acc) p → Goal ((y >>= finish kont) acc) q → Goal ((cond b x y >>= finish kont) acc) (cond b p q)
      either_goal true x y kont acc p q h k = h
      either_goal false x y kont acc p q h k = k

      -- what an evaluation is followed by, in a statement
      deed_eval : {A : Type 0} (site : Site) (o : Out FaultKind A) (F : A → Run Next) (kont : Env → Run ℤ) (acc : Accumulators) (next : A → Trace) → Calm o → ((a : A) (acc : Accumulators) → Goal ((F a >>= finish kont) acc) (next a)) → Goal (((at site o >>= F) >>= finish kont) acc) (evaluated None site o next)
      deed_eval site o F kont acc next calm h =
          subst (λ m. Goal m (evaluated None site o next)) (sym (bind_assoc (at site o) F (finish kont) acc)) (eval_goal Goal g site o (λ a. F a >>= finish kont) acc next calm h)

      loop_deed : (n : Place) (c : ℕ) (env : Env) (kont : Env → Run ℤ) (left : ℕ) (job : Job) → IsOther job.callee → (count : ℕ) (next : Trace) → ((acc : Accumulators) → Goal (kont env acc) next) → (acc : Accumulators)
          → Goal (((all_turns program tables enters job count >>= (λ u. pure (On env))) >>= finish kont) acc) (after_call None (half_run program tables sight sub left halvings job count 0 (child_of n c)) (λ v. next))
      unfolding all_turns
      loop_deed n c env kont left job other count next h acc =
          let r = loop_walk program tables sight sub left halvings job count 0 (child_of n c) 1 None in
          let w = half_closed program tables sight sub left (child_of n c) r in
          let o = iterations job count 0 (pure (pos 0)) acc in
          let e : ((turns program tables enters job count 0 >>= (λ u. pure (On env))) >>= finish kont) acc ≡ (iterations job count 0 (pure (pos 0)) >>= (λ v. kont env)) acc =
          bind_assoc (turns program tables enters job count 0) (λ u. pure (On env)) (finish kont) acc ∙ (λ p. plain_of IsOther program tables sight enters sub job count 0 (kont env) p acc) ∙ sym (λ p. plain_bind IsOther program tables sight enters sub job count 0 (pure (pos 0)) (λ v. kont env) p acc) in
          subst (λ m. Goal m (after_call None w (λ v. next))) (sym e)
          (call_goal Goal g o w.events w.outcome (λ v. kont env) acc (λ v. next) (half_need left o (child_of n c) r.events r.outcome (loop_need left halvings job other count 0 (child_of n c) 1 acc)) (λ v acc'. h acc'))

      module _ (left : ℕ) (sound : GoodRuns (Every Opens) (λ n c d r. (k : Fault) → d ≡ Some k → r.outcome ≡ Err k) (λ n r. Unit {0}) doomed half_opens program tables sight sub) where
        abbrev pub Goes : Place → (Env → Run ℤ) → (Env → ℕ → Option Fault → Trace) → Type 0
        Goes n kont k = ((env : Env) (c : ℕ) (acc : Accumulators) → Goal (kont env acc) (k env c None)) × ((env : Env) (c : ℕ) (d : Option Fault) (e : Fault) → d ≡ Some e → (k env c d).outcome ≡ Err e)

        pub rest_doomed : (n : Place) (here : Name) (b : Body) (k : Env → ℕ → Option Fault → Trace) → ((env : Env) (c : ℕ) (d : Option Fault) (e : Fault) → d ≡ Some e → (k env c d).outcome ≡ Err e) → (env : Env) (c : ℕ) (d : Option Fault) (e : Fault) → d ≡ Some e → (body_walk program tables sight sub left n here b env c d k).outcome ≡ Err e
        rest_doomed n here b k h env c d e' = has_body (Every Opens) _ _ doomed half_opens program tables sight sub sound left n here b env c d k (λ env'' c'' d'' e'' q. h env'' c'' d'' e'' q) e'

        mutual
          pub deed_goal : (n : Place) (site : Site) (d : Deed) → NoReadsDeed d → EntersOnlyDeed IsOther d → (env : Env) (c : ℕ) (kont : Env → Run ℤ) (k : Env → ℕ → Option Fault → Trace) → Goes n kont k → (acc : Accumulators) → Goal ((deed program tables enters site env d >>= finish kont) acc) (deed_walk program tables sight sub left n site d env c None k)
          deed_goal n site (bind x e) nr en env c kont k h acc = deed_eval site (value tables env e) (λ v. pure (On (put env x v))) kont acc _ (calm_value tables env e) (λ v acc'. h.0 (put env x v) c acc')
          deed_goal n site (enter x Call f es) nr en env c kont k h acc =
              deed_eval site (values tables env es) (λ vs. enters site f vs >>= (λ v. pure (On (put_into x env v)))) kont acc _ (calm_values tables env es) (λ vs acc'.
              subst (λ m. Goal m (entering None site sub (λ go. after_call None (go f vs (child_of n c)) (λ v. k (put_into x env v) (suc c) None)))) (sym (bind_assoc (enters site f vs) (λ v. pure (On (put_into x env v))) (finish kont) acc'))
              (enter_goal Goal g sub good site f en vs (λ v. kont (put_into x env v)) acc' _ (λ go e.
              let r = go f vs (child_of n c) in
              call_goal Goal g (enters site f vs acc') r.events r.outcome (λ v. kont (put_into x env v)) acc' (λ v. k (put_into x env v) (suc c) None) (e (child_of n c) acc') (λ v acc''. h.0 (put_into x env v) (suc c) acc''))))
          deed_goal n site (enter x Spawn f es) nr en env c kont k h acc =
              deed_eval site (values tables env es) (λ vs. enters site f vs >>= (λ v. pure (On (put_into x env v)))) kont acc _ (calm_values tables env es) (λ vs acc'.
              subst (λ m. Goal m (entering None site sub (λ go. after_spawn (child_of n c) (go f vs (child_of n c)) (λ o. k (env_after env x o) (suc c) (doom_after None o))))) (sym (bind_assoc (enters site f vs) (λ v. pure (On (put_into x env v))) (finish kont) acc'))
              (enter_goal Goal g sub good site f en vs (λ v. kont (put_into x env v)) acc' _ (λ go e.
              let r = go f vs (child_of n c) in
              spawn_goal Goal g (child_of n c) (enters site f vs acc') r.events r.outcome (λ v. kont (put_into x env v)) acc' (λ o. k (env_after env x o) (suc c) (doom_after None o)) (e (child_of n c) acc') (λ v acc''. h.0 (put_into x env v) (suc c) acc'') (λ d. h.1 (env_after env x (Err d)) (suc c) (Some d) d refl))))
          deed_goal n site (read x r) nr en env c kont k h acc = absurd nr
          deed_goal n site sync nr en env c kont k h acc = g.leads [] (Syncs n ∷ []) (kont env acc) (k env c None) (unmarked_keys program (Syncs n ∷ []) (tt, tt)) refl (h.0 env c acc)
          deed_goal n site (update r es) nr en env c kont k h acc = deed_eval site (update_of tables (reducers program) env r es) (λ u. pure (On env)) kont acc _ (calm_update tables (reducers program) env r es) (λ u acc'. h.0 env c acc')
          deed_goal n site (choose e a b) nr en env c kont k h acc =
              deed_eval site (value tables env e) (λ v. cond (int_eq v (pos 0)) (body program tables enters site.procedure env b) (body program tables enters site.procedure env a)) kont acc _ (calm_value tables env e) (λ v acc'.
              either_goal (int_eq v (pos 0)) (body program tables enters site.procedure env b) (body program tables enters site.procedure env a) kont acc' _ _ (body_goal n site.procedure b nr.1 en.1 env c kont k h acc') (body_goal n site.procedure a nr.0 en.0 env c kont k h acc'))
          deed_goal n site (loop x e e' grain f es) nr en env c kont k h acc =
              deed_eval site (bounds tables env e e') (λ range. all_turns program tables enters (job_of site env x f es grain range.0) range.1 >>= (λ u. pure (On env))) kont acc _ (calm_bounds tables env e e') (λ range acc'.
              loop_deed n c env kont left (job_of site env x f es grain range.0) en range.1 (k env (suc c) None) (λ acc''. h.0 env (suc c) acc'') acc')
          deed_goal n site (give e) nr en env c kont k h acc = deed_eval site (value tables env e) (λ v. pure (Back v)) kont acc _ (calm_value tables env e) (λ v acc'. g.overs n v)

          pub body_goal : (n : Place) (here : Name) (b : Body) → NoReads b → EntersOnly IsOther b → (env : Env) (c : ℕ) (kont : Env → Run ℤ) (k : Env → ℕ → Option Fault → Trace) → Goes n kont k → (acc : Accumulators) → Goal ((body program tables enters here env b >>= finish kont) acc) (body_walk program tables sight sub left n here b env c None k)
          body_goal n here end nr en env c kont k h acc = h.0 env c acc
          body_goal n here (step s d b) nr en env c kont k h acc =
              let site : Site = record { procedure = here; statement = s } in
              let k' = λ (env' : Env) (c' : ℕ) (d' : Option Fault). body_walk program tables sight sub left n here b env' c' d' k in
              subst (λ m. Goal m (deed_walk program tables sight sub left n site d env c None k')) (sym (step_apart program tables enters here s d b env kont acc))
              (deed_goal n site d nr.0 en.0 env c (λ env'. body program tables enters here env' b >>= finish kont) k' ((λ env' c' acc'. body_goal n here b nr.1 en.1 env' c' kont k h acc'), rest_doomed n here b k h.1) acc)
