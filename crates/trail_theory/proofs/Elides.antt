-- The elision is a fold of the trail.
use Rattle.std.proofs.Common.{ℕ, zero, suc, ◌+◌, ◌-◌, List, [], ◌∷◌, ◌++◌, Option, Some, None, Result, Ok, Err, ℤ, pos, ◌≡◌, refl, sym, ap, ap₂, ◌∙◌, subst, arith, append_assoc, append-nil, true, false, Bool, cond}
use Rattle.std.specs.Prelude.{nat_le, ◌/◌, ◌+ℤ◌, slice_get}
use Rattle.std.specs.Ordering.{int_eq}
use Rattle.meaning.specs.Tree.{Name, Deed, bind, enter, read, sync, update, choose, loop, give, Body, end, step, Tree}
use Rattle.meaning.specs.declared.tree.Way.TheVariants.{Call, Spawn}
use Rattle.meaning.specs.declared.FaultKind.{FaultKind}
use Rattle.meaning.specs.declared.FaultKind.TheVariants.{TooDeep}
use Rattle.meaning.specs.Tables.{Tables}
use Rattle.meaning.specs.Outcome.{Log, Accumulators, Fault, Site, Outcome, Place, Reads, Enters, Updates, Reuses, Begins, Syncs, Leaves, Faults, Marks, Spawns, Out, onward, after, updated, combined}
use Rattle.meaning.specs.Run.{Run, placed, at, pure, ◌>>=◌}
use Rattle.meaning.specs.Values.{Env, put, value, values}
use Rattle.meaning.specs.Statements.{reducers, Job, job_of, proc_of, fresh, put_into, update_of, bounds, turn_values}
use Rattle.meaning.specs.Elision.{Enter, Next, On, Back, go_on, back_or_zero, turns, all_turns, deed, body, elide, depth_limit}
use Rattle.meaning.specs.Trail.{Trace, led, child_of, fault_at, env_after, doom_after, after_answer, evaluated, Go, Runner, entering, after_call, after_spawn, over, Look, mark, opening, inner, turns_walk, half_closed, loop_walk, half_run, halvings, deed_walk, body_walk, run_inside, runner, run}
use Rattle.std.proofs.Math.Nat.{div-le_self}
use Rattle.trail_theory.specs.ElisionBeside.{forgotten, first_fault, before_fault, Fits, Matches}
use Rattle.trail_theory.specs.Order.{Every}
use Rattle.trail_theory.specs.Waiting.{NoReadsDeed, NoReads, HasNoReads}
use Rattle.trail_theory.specs.ReadsAtEnd.{EntersOnlyDeed, EntersOnly}
use Rattle.trail_theory.proofs.Evaluations.{Told, Calm, calm_value, calm_values, calm_update, calm_bounds}
use Rattle.trail_theory.proofs.Walks.{Opens, half_opens, GoodRuns, good_runs, has_body}
use Rattle.trail_theory.proofs.Inside.{doomed}
use Rattle.trail_theory.proofs.FirstFaults.{quiet_first, told_none, before_append, before_first, first_kept}

pub forgotten_append : (a b : Log) → forgotten (a ++ b) ≡ forgotten a ++ forgotten b
forgotten_append [] b = refl
forgotten_append (Reads r ∷ es) b = ap (λ l. Reads r ∷ l) (forgotten_append es b)
forgotten_append (Enters f args d ∷ es) b = ap (λ l. Enters f args d ∷ l) (forgotten_append es b)
forgotten_append (Updates n kind w ∷ es) b = ap (λ l. Updates n kind w ∷ l) (forgotten_append es b)
forgotten_append (Reuses f args ws ∷ es) b = forgotten_append es b
forgotten_append (Begins n d ∷ es) b = forgotten_append es b
forgotten_append (Syncs n ∷ es) b = forgotten_append es b
forgotten_append (Spawns n ∷ es) b = forgotten_append es b
forgotten_append (Leaves n v ∷ es) b = forgotten_append es b
forgotten_append (Faults k ∷ es) b = forgotten_append es b
forgotten_append (Marks f args c ∷ es) b = forgotten_append es b

pub forgotten_told : (es : Log) → Every Told es → forgotten es ≡ es
forgotten_told [] h = refl
forgotten_told (Reads r ∷ es) h = ap (λ l. Reads r ∷ l) (forgotten_told es h.1)
forgotten_told (Updates n kind w ∷ es) h = ap (λ l. Updates n kind w ∷ l) (forgotten_told es h.1)
forgotten_told (Enters f args d ∷ es) h = absurd h.0
forgotten_told (Reuses f args ws ∷ es) h = absurd h.0
forgotten_told (Begins n d ∷ es) h = absurd h.0
forgotten_told (Syncs n ∷ es) h = absurd h.0
forgotten_told (Spawns n ∷ es) h = absurd h.0
forgotten_told (Leaves n v ∷ es) h = absurd h.0
forgotten_told (Faults k ∷ es) h = absurd h.0
forgotten_told (Marks f args c ∷ es) h = absurd h.0

pub after_append : (l m : Log) (acc : Accumulators) → after (l ++ m) acc ≡ after m (after l acc)
after_append [] m acc = refl
after_append (Reads r ∷ l) m acc = after_append l m acc
after_append (Enters f args d ∷ l) m acc = after_append l m acc
after_append (Reuses f args ws ∷ l) m acc = after_append l m (combined acc ws)
after_append (Begins p d ∷ l) m acc = after_append l m acc
after_append (Syncs p ∷ l) m acc = after_append l m acc
after_append (Spawns p ∷ l) m acc = after_append l m acc
after_append (Leaves p v ∷ l) m acc = after_append l m acc
after_append (Faults f ∷ l) m acc = after_append l m acc
after_append (Marks f args c ∷ l) m acc = after_append l m acc
after_append (Updates n kind w ∷ l) m acc = after_append l m (updated acc n kind w (slice_get acc n))

-- the monad's law
assoc_in : {B C : Type 0} (log qlog : Log) (r : Result B Fault) (g : B → Run C) (acc : Accumulators)
    → onward (log ++ qlog) r (λ b. g b (after (log ++ qlog) acc)) ≡ record { log = log ++ (onward qlog r (λ b. g b (after qlog (after log acc)))).log; answer = (onward qlog r (λ b. g b (after qlog (after log acc)))).answer }
assoc_in log qlog (Err e) g acc = refl
assoc_in log qlog (Ok b) g acc = rw (after_append log qlog acc) (ap (λ l. record { log = l; answer = (g b (after qlog (after log acc))).answer }) (append_assoc log qlog (g b (after qlog (after log acc))).log))

assoc_at : {A B C : Type 0} (log : Log) (r : Result A Fault) (f : A → Run B) (g : B → Run C) (acc : Accumulators)
    → (let o = onward log r (λ a. f a (after log acc)) in onward o.log o.answer (λ b. g b (after o.log acc))) ≡ onward log r (λ a. (f a >>= g) (after log acc))
assoc_at log (Err e) f g acc = refl
assoc_at log (Ok a) f g acc = let q = f a (after log acc) in assoc_in log q.log q.answer g acc

pub bind_assoc : {A B C : Type 0} (m : Run A) (f : A → Run B) (g : B → Run C) (acc : Accumulators) → ((m >>= f) >>= g) acc ≡ (m >>= (λ a. f a >>= g)) acc
bind_assoc m f g acc = assoc_at (m acc).log (m acc).answer f g acc

pub fits_led : (p es : Log) (o : Out Fault ℤ) (q : Log) (out : Outcome) → p ≡ forgotten q → first_fault q ≡ None → Fits o es out → Fits (record { log = p ++ o.log; answer = o.answer }) (q ++ es) out
fits_led p es o q (Ok v) e z h = (ap₂ (λ l a. record { log = l; answer = a }) (ap₂ ◌++◌ e (ap (λ x. x.log) h.0) ∙ sym (forgotten_append q es)) (ap (λ x. x.answer) h.0), quiet_first q es z ∙ h.1)
fits_led p es o q (Err k) e z h = (h.0, (ap₂ ◌++◌ e h.1.0 ∙ sym (forgotten_append q (before_fault es)) ∙ ap forgotten (sym (before_append q es z)), quiet_first q es z ∙ h.1.1))

-- an evaluation that has a fault
fits_stopped : (log : Log) (k : Fault) → Every Told log → Fits (record { log = log; answer = Err k }) (log ++ Faults k ∷ []) (Err k)
fits_stopped log k t =
    let z = told_none log t in
    (refl, (sym (ap forgotten (before_append log (Faults k ∷ []) z ∙ append-nil log) ∙ forgotten_told log t), quiet_first log (Faults k ∷ []) z))

-- a fault of a child, and more events
fits_failed : {A : Type 0} (log : Log) (r : Result A Fault) (f : A → Out Fault ℤ) (es more : Log) (k : Fault) → r ≡ Err k → log ≡ forgotten (before_fault es) → first_fault es ≡ Some k → Fits (onward log r f) (es ++ more) (Err k)
fits_failed log (Ok v) f es more k q l z = absurd cc
fits_failed log (Err j) f es more k q l z =
    let e : j ≡ k = cc in
    (ap Err e, (l ∙ ap forgotten (sym (before_first es more k z)), first_kept es more k z))

fits_spawned : (o : Out Fault ℤ) (n : Place) (es : Log) (out : Outcome) → Fits o es out → Fits o (Spawns n ∷ es) out
fits_spawned o n es (Ok v) h = h
fits_spawned o n es (Err k) h = h

-- what is known of a piece of the elision as it begins from given accumulators, where it is known of the rest of the piece too
abbrev pub GoesOn : (Accumulators → Out Fault ℤ → Type 0) → Type 0
GoesOn G = (log : Log) (acc : Accumulators) (o : Out Fault ℤ) → G acc (record { log = log ++ o.log; answer = o.answer }) → G (after log acc) o

abbrev pub Anything : Accumulators → Out Fault ℤ → Type 0
Anything acc o = Unit {0}

pub anything : GoesOn Anything
anything log acc o g = tt

module _ (G : Accumulators → Out Fault ℤ → Type 0) (onwards : GoesOn G) where
  -- an evaluation, and then the rest
  eval_fits : {A : Type 0} (site : Site) (o : Out FaultKind A) (f : A → Run ℤ) (acc : Accumulators) (next : A → Trace) → Calm o → G acc ((at site o >>= f) acc) → ((a : A) (acc : Accumulators) → G acc (f a acc) → Matches (f a acc) (next a)) → Matches ((at site o >>= f) acc) (evaluated None site o next)
  eval_fits site o f acc next calm known h = eval_at o.log o.answer calm known
    where
      eval_at : (log : Log) (r : Result _ FaultKind) → Every Told log → G acc (onward log (placed site r) (λ a. f a (after log acc))) → Matches (onward log (placed site r) (λ a. f a (after log acc))) (led log (after_answer None site r next))
      eval_at log (Err k) t g = fits_stopped log (fault_at site k) t
      eval_at log (Ok a) t g = fits_led log (next a).events (f a (after log acc)) log (next a).outcome (sym (forgotten_told log t)) (told_none log t) (h a (after log acc) (onwards log acc (f a (after log acc)) g))

  -- a child, and then the rest
  pub call_fits : (o : Out Fault ℤ) (es : Log) (out : Outcome) (f : ℤ → Run ℤ) (acc : Accumulators) (next : ℤ → Trace) → Fits o es out → G acc (onward o.log o.answer (λ a. f a (after o.log acc))) → ((v : ℤ) (acc : Accumulators) → G acc (f v acc) → Matches (f v acc) (next v)) → Matches (onward o.log o.answer (λ a. f a (after o.log acc))) (after_call None (record { events = es; outcome = out }) next)
  call_fits o es (Ok v) f acc next e known h =
      subst (λ q. G acc (onward q.log q.answer (λ a. f a (after q.log acc))) → Matches (onward q.log q.answer (λ a. f a (after q.log acc))) (led es (next v))) (sym e.0)
      (λ g. fits_led (forgotten es) (next v).events (f v (after (forgotten es) acc)) es (next v).outcome refl e.1 (h v (after (forgotten es) acc) (onwards (forgotten es) acc (f v (after (forgotten es) acc)) g))) known
  call_fits o es (Err k) f acc next e known h = fits_failed o.log o.answer (λ a. f a (after o.log acc)) es [] k e.0 e.1.0 e.1.1

  spawn_fits : (p : Place) (o : Out Fault ℤ) (es : Log) (out : Outcome) (f : ℤ → Run ℤ) (acc : Accumulators) (next : Outcome → Trace) → Fits o es out → G acc (onward o.log o.answer (λ a. f a (after o.log acc))) → ((v : ℤ) (acc : Accumulators) → G acc (f v acc) → Matches (f v acc) (next (Ok v))) → ((k : Fault) → (next (Err k)).outcome ≡ Err k)
      → Matches (onward o.log o.answer (λ a. f a (after o.log acc))) (after_spawn p (record { events = es; outcome = out }) next)
  spawn_fits p o es (Ok v) f acc next e known h d = fits_spawned _ p (es ++ (next (Ok v)).events) (next (Ok v)).outcome (call_fits o es (Ok v) f acc (λ w. next (Ok w)) e known h)
  spawn_fits p o es (Err k) f acc next e known h d =
      subst (λ w. Fits (onward o.log o.answer (λ a. f a (after o.log acc))) (Spawns p ∷ (es ++ (next (Err k)).events)) w) (sym (d k))
      (fits_spawned _ p (es ++ (next (Err k)).events) (Err k) (fits_failed o.log o.answer (λ a. f a (after o.log acc)) es (next (Err k)).events k e.0 e.1.0 e.1.1))

abbrev pub finish : (Env → Run ℤ) → Next → Run ℤ
finish kont (On env) = kont env
finish kont (Back v) = pure v

pub fits_closed : (o : Out Fault ℤ) (n : Place) (es : Log) (out : Outcome) → Fits o es out → Fits o (es ++ Leaves n out ∷ []) out
fits_closed o n es (Ok v) h = (h.0 ∙ ap (λ l. record { log = l; answer = Ok v }) (sym (forgotten_append es (Leaves n (Ok v) ∷ []) ∙ append-nil (forgotten es))), quiet_first es (Leaves n (Ok v) ∷ []) h.1)
fits_closed o n es (Err k) h = (h.0, (h.1.0 ∙ ap forgotten (sym (before_first es (Leaves n (Err k) ∷ []) k h.1.1)), first_kept es (Leaves n (Err k) ∷ []) k h.1.1))

fits_begun : (o : Out Fault ℤ) (n : Place) (d : ℕ) (es : Log) (out : Outcome) → Fits o es out → Fits o (Begins n d ∷ es) out
fits_begun o n d es (Ok v) h = h
fits_begun o n d es (Err k) h = h

fits_synced : (o : Out Fault ℤ) (n : Place) (es : Log) (out : Outcome) → Fits o es out → Fits o (Syncs n ∷ es) out
fits_synced o n es (Ok v) h = h
fits_synced o n es (Err k) h = h

same_next : (F : Env → Run Next) (kont : Env → Run ℤ) (x : Next) → (go_on x F >>= finish kont) ≡ finish (λ env. F env >>= finish kont) x
same_next F kont (On env) = refl
same_next F kont (Back v) = refl

-- a block's first statement, and the rest of it
pub step_apart : (program : Tree) (tables : Tables) (enters : Enter) (here : Name) (s : ℕ) (d : Deed) (b : Body) (env : Env) (kont : Env → Run ℤ) (acc : Accumulators) → (body program tables enters here env (step s d b) >>= finish kont) acc ≡ (deed program tables enters (record { procedure = here; statement = s }) env d >>= finish (λ env'. body program tables enters here env' b >>= finish kont)) acc
step_apart program tables enters here s d b env kont acc =
    let site : Site = record { procedure = here; statement = s } in
    let F = λ (env' : Env). body program tables enters here env' b in
    bind_assoc (deed program tables enters site env d) (λ x. go_on x F) (finish kont) acc ∙ (λ p. (deed program tables enters site env d >>= (λ x. same_next F kont x p)) acc)

module _ (Quiet : Name → Type 0) (program : Tree) (tables : Tables) (sight : Accumulators) (enters : Enter) (sub : Runner) where
  -- the elision's instances of these procedures beside the trail's
  pub Elides : Runner → Type 0
  Elides None = (site : Site) (f : Name) (vs : List ℤ) (acc : Accumulators) → enters site f vs acc ≡ record { log = []; answer = Err (fault_at site TooDeep) }
  Elides (Some go) = (site : Site) (f : Name) (vs : List ℤ) (n : Place) (acc : Accumulators) → Quiet f → Matches (enters site f vs acc) (go f vs n)

  pub enter_fits : (r : Runner) → Elides r → (site : Site) (f : Name) → Quiet f → (vs : List ℤ) (kont : ℤ → Run ℤ) (acc : Accumulators) (next : Go → Trace)
      → ((go : Go) → ((n : Place) (acc : Accumulators) → Matches (enters site f vs acc) (go f vs n)) → Matches ((enters site f vs >>= kont) acc) (next go)) → Matches ((enters site f vs >>= kont) acc) (entering None site r next)
  unfolding Elides
  enter_fits None e site f quiet vs kont acc next h =
      let k = fault_at site TooDeep in
      subst (λ o. Fits (onward o.log o.answer (λ a. kont a (after o.log acc))) (Faults k ∷ []) (Err k)) (sym (e site f vs acc)) (refl, (refl, refl))
  enter_fits (Some go) e site f quiet vs kont acc next h = h go (λ n acc. e site f vs n acc quiet)

  -- so many iterations, and then the rest
  abbrev pub plain : Job → ℕ → ℕ → Run ℤ → Run ℤ
  plain job zero i k = k
  plain job (suc count) i k = at job.site (turn_values tables job i) >>= (λ vs. enters job.site job.callee vs >>= (λ v. plain job count (suc i) k))

  pub plain_bind : (job : Job) (a i : ℕ) (k : Run ℤ) (f : ℤ → Run ℤ) → (plain job a i k >>= f) ≡ plain job a i (k >>= f)
  plain_bind job zero i k f = refl
  plain_bind job (suc a) i k f =
      let F = λ (vs : List ℤ). (enters job.site job.callee vs >>= (λ v. plain job a (suc i) k)) in
      let one : ((at job.site (turn_values tables job i) >>= F) >>= f) ≡ (at job.site (turn_values tables job i) >>= (λ vs. F vs >>= f)) = λ p acc. bind_assoc (at job.site (turn_values tables job i)) F f acc p in
      let two : (vs : List ℤ) → (F vs >>= f) ≡ (enters job.site job.callee vs >>= (λ v. plain job a (suc i) (k >>= f))) = λ vs.
      (let x : (F vs >>= f) ≡ (enters job.site job.callee vs >>= (λ v. plain job a (suc i) k >>= f)) = λ p acc. bind_assoc (enters job.site job.callee vs) (λ v. plain job a (suc i) k) f acc p in
      x ∙ (λ p. enters job.site job.callee vs >>= (λ v. plain_bind job a (suc i) k f p))) in
      one ∙ (λ p. at job.site (turn_values tables job i) >>= (λ vs. two vs p))

  pub plain_of : (job : Job) (a i : ℕ) (k : Run ℤ) → (turns program tables enters job a i >>= (λ u. k)) ≡ plain job a i k
  plain_of job zero i k = refl
  plain_of job (suc a) i k =
      let F = λ (vs : List ℤ). (enters job.site job.callee vs >>= (λ v. turns program tables enters job a (suc i))) in
      let one : ((at job.site (turn_values tables job i) >>= F) >>= (λ u. k)) ≡ (at job.site (turn_values tables job i) >>= (λ vs. F vs >>= (λ u. k))) = λ p acc. bind_assoc (at job.site (turn_values tables job i)) F (λ u. k) acc p in
      let two : (vs : List ℤ) → (F vs >>= (λ u. k)) ≡ (enters job.site job.callee vs >>= (λ v. plain job a (suc i) k)) = λ vs.
      (let x : (F vs >>= (λ u. k)) ≡ (enters job.site job.callee vs >>= (λ v. turns program tables enters job a (suc i) >>= (λ u. k))) = λ p acc. bind_assoc (enters job.site job.callee vs) (λ v. turns program tables enters job a (suc i)) (λ u. k) acc p in
      x ∙ (λ p. enters job.site job.callee vs >>= (λ v. plain_of job a (suc i) k p))) in
      one ∙ (λ p. at job.site (turn_values tables job i) >>= (λ vs. two vs p))

  pub plain_split : (job : Job) (a b i : ℕ) (k : Run ℤ) → plain job (a + b) i k ≡ plain job a i (plain job b (i + a) k)
  plain_split job zero b i k =
      let e : 0 + b ≡ b = omega arith in
      let e' : i + 0 ≡ i = omega arith in
      rw (e, e') refl
  plain_split job (suc a) b i k =
      let e : suc a + b ≡ suc (a + b) = omega arith in
      let e' : i + suc a ≡ suc i + a = omega arith in
      rw (e, e') (λ p. at job.site (turn_values tables job i) >>= (λ vs. enters job.site job.callee vs >>= (λ v. plain_split job a b (suc i) k p)))

  module _ (good : Elides sub) where
    pub turns_fit : (job : Job) → Quiet job.callee → (count i : ℕ) (n : Place) (c : ℕ) (acc : Accumulators) → Matches (plain job count i (pure (pos 0)) acc) (turns_walk program tables sight sub job count i n c None)
    turns_fit job quiet zero i n c acc = (refl, refl)
    turns_fit job quiet (suc count) i n c acc =
        eval_fits Anything anything job.site (turn_values tables job i) (λ vs. enters job.site job.callee vs >>= (λ v. plain job count (suc i) (pure (pos 0)))) acc _ (calm_values tables (put job.env job.variable (job.low +ℤ pos i)) job.args) tt (λ vs acc' g.
        enter_fits sub good job.site job.callee quiet vs (λ v. plain job count (suc i) (pure (pos 0))) acc' _ (λ go e.
        let r = go job.callee vs (child_of n c) in
        call_fits Anything anything (enters job.site job.callee vs acc') r.events r.outcome (λ v. plain job count (suc i) (pure (pos 0))) acc' (λ v. turns_walk program tables sight sub job count (suc i) n (suc c) None) (e (child_of n c) acc') tt (λ v acc'' g'. turns_fit job quiet count (suc i) n (suc c) acc'')))

    cond_fits : (b : Bool) (o : Out Fault ℤ) (x y : Trace) → Matches o x → Matches o y → Matches o (cond b x y)
    cond_fits true o x y h k = h
    cond_fits false o x y h k = k

    pub half_fits : (left : ℕ) (o : Out Fault ℤ) (n : Place) (es : Log) (out : Outcome) → Fits o es out → Matches o (half_closed program tables sight sub left n (record { events = es; outcome = out }))
    half_fits left o n es out h = fits_begun o n (depth_limit - left) (es ++ Leaves n out ∷ []) out (fits_closed o n es out h)

    pub call_doomed : (n : Place) (d : Fault) (es : Log) (o : Outcome) → (after_call (Some d) (record { events = es; outcome = o }) (λ v. over n (Some d) (pos 0))).outcome ≡ Err d
    call_doomed n d es (Ok v) = refl
    call_doomed n d es (Err j) = refl

    -- a loop by halves is the plain loop
    pub loop_fit : (left k : ℕ) (job : Job) → Quiet job.callee → (count i : ℕ) (n : Place) (c : ℕ) (acc : Accumulators) → Matches (plain job count i (pure (pos 0)) acc) (loop_walk program tables sight sub left k job count i n c None)
    loop_fit left zero job quiet count i n c acc = turns_fit job quiet count i n c acc
    loop_fit left (suc k) job quiet count i n c acc =
        let a = count / 2 in
        let b = count - count / 2 in
        let whole : a + b ≡ count = omega (arith, div-le_self count 2) in
        let x = loop_walk program tables sight sub left k job a i (child_of n c) 1 None in
        let y = loop_walk program tables sight sub left k job b (i + a) (child_of n (suc c)) 1 None in
        let first = half_closed program tables sight sub left (child_of n c) x in
        let second = half_closed program tables sight sub left (child_of n (suc c)) y in
        let f = λ (v : ℤ). plain job b (i + a) (pure (pos 0)) in
        let e : plain job count i (pure (pos 0)) ≡ (plain job a i (pure (pos 0)) >>= f) = ap (λ m. plain job m i (pure (pos 0))) (sym whole) ∙ plain_split job a b i (pure (pos 0)) ∙ sym (plain_bind job a i (pure (pos 0)) f) in
        let next = λ (o : Outcome). after_call (doom_after None o) second (λ v. over n (doom_after None o) (pos 0)) in
        let last : (acc : Accumulators) → Matches (plain job b (i + a) (pure (pos 0)) acc) (next (Ok (pos 0))) = λ acc. subst (λ m. Matches (m acc) (next (Ok (pos 0)))) (plain_bind job b (i + a) (pure (pos 0)) (λ v. pure (pos 0))) (call_fits Anything anything (plain job b (i + a) (pure (pos 0)) acc) second.events second.outcome (λ v. pure (pos 0)) acc (λ v. over n None (pos 0)) (half_fits left (plain job b (i + a) (pure (pos 0)) acc) (child_of n (suc c)) y.events y.outcome (loop_fit left k job quiet b (i + a) (child_of n (suc c)) 1 acc)) tt (λ v acc' g. (refl, refl))) in
        cond_fits (nat_le count job.grain) (plain job count i (pure (pos 0)) acc) _ _ (turns_fit job quiet count i n c acc)
        (subst (λ m. Matches (m acc) (after_spawn (child_of n c) first next)) (sym e)
        (spawn_fits Anything anything (child_of n c) (plain job a i (pure (pos 0)) acc) first.events first.outcome f acc next (half_fits left (plain job a i (pure (pos 0)) acc) (child_of n c) x.events x.outcome (loop_fit left k job quiet a i (child_of n c) 1 acc)) tt (λ v acc' g. last acc') (λ d. call_doomed n d second.events second.outcome)))

    either_fits : (b : Bool) (x y : Run Next) (kont : Env → Run ℤ) (acc : Accumulators) (p q : Trace) (P : Out Fault ℤ → Type 0) → P ((cond b x y >>= finish kont) acc) → (P ((x >>= finish kont) acc) → Matches ((x >>= finish kont) acc) p) → (P ((y >>= finish kont) acc) → Matches ((y >>= finish kont) acc) q) → Matches ((cond b x y >>= finish kont) acc) (cond b p q)
    either_fits true x y kont acc p q P g h k = h g
    either_fits false x y kont acc p q P g h k = k g

    module _ (G : Accumulators → Out Fault ℤ → Type 0) (onwards : GoesOn G) where
      -- what an evaluation is followed by, in a statement
      deed_eval : {A : Type 0} (site : Site) (o : Out FaultKind A) (F : A → Run Next) (kont : Env → Run ℤ) (acc : Accumulators) (next : A → Trace) → Calm o → G acc (((at site o >>= F) >>= finish kont) acc) → ((a : A) (acc : Accumulators) → G acc ((F a >>= finish kont) acc) → Matches ((F a >>= finish kont) acc) (next a)) → Matches (((at site o >>= F) >>= finish kont) acc) (evaluated None site o next)
      deed_eval site o F kont acc next calm known h =
          subst (λ m. G acc m → Matches m (evaluated None site o next)) (sym (bind_assoc (at site o) F (finish kont) acc)) (λ g. eval_fits G onwards site o (λ a. F a >>= finish kont) acc next calm g h) known

      loop_deed : (n : Place) (c : ℕ) (env : Env) (kont : Env → Run ℤ) (left : ℕ) (job : Job) → Quiet job.callee → (count : ℕ) (next : Trace) → ((acc : Accumulators) → G acc (kont env acc) → Matches (kont env acc) next) → (acc : Accumulators)
          → G acc (((all_turns program tables enters job count >>= (λ u. pure (On env))) >>= finish kont) acc) → Matches (((all_turns program tables enters job count >>= (λ u. pure (On env))) >>= finish kont) acc) (after_call None (half_run program tables sight sub left halvings job count 0 (child_of n c)) (λ v. next))
      unfolding all_turns
      loop_deed n c env kont left job quiet count next h acc known =
          let r = loop_walk program tables sight sub left halvings job count 0 (child_of n c) 1 None in
          let w = half_closed program tables sight sub left (child_of n c) r in
          let o = plain job count 0 (pure (pos 0)) acc in
          let e : ((turns program tables enters job count 0 >>= (λ u. pure (On env))) >>= finish kont) acc ≡ (plain job count 0 (pure (pos 0)) >>= (λ v. kont env)) acc =
          bind_assoc (turns program tables enters job count 0) (λ u. pure (On env)) (finish kont) acc ∙ (λ p. plain_of job count 0 (kont env) p acc) ∙ sym (λ p. plain_bind job count 0 (pure (pos 0)) (λ v. kont env) p acc) in
          subst (λ m. G acc m → Matches m (after_call None w (λ v. next))) (sym e)
          (λ g. call_fits G onwards o w.events w.outcome (λ v. kont env) acc (λ v. next) (half_fits left o (child_of n c) r.events r.outcome (loop_fit left halvings job quiet count 0 (child_of n c) 1 acc)) g (λ v acc' g'. h acc' g')) known

      module _ (left : ℕ) (sound : GoodRuns (Every Opens) (λ n c d r. (k : Fault) → d ≡ Some k → r.outcome ≡ Err k) (λ n r. Unit {0}) doomed half_opens program tables sight sub) where
        abbrev pub Goes : Place → (Env → Run ℤ) → (Env → ℕ → Option Fault → Trace) → Type 0
        Goes n kont k = ((env : Env) (c : ℕ) (acc : Accumulators) → G acc (kont env acc) → Matches (kont env acc) (k env c None)) × ((env : Env) (c : ℕ) (d : Option Fault) (e : Fault) → d ≡ Some e → (k env c d).outcome ≡ Err e)

        -- a statement, and then a block
        pub step_fits : (n : Place) (here : Name) (s : ℕ) (d : Deed) (b : Body) (env : Env) (c : ℕ) (kont : Env → Run ℤ) (k : Env → ℕ → Option Fault → Trace) (acc : Accumulators)
            → (let site : Site = record { procedure = here; statement = s } in G acc ((deed program tables enters site env d >>= finish (λ env'. body program tables enters here env' b >>= finish kont)) acc) → Matches ((deed program tables enters site env d >>= finish (λ env'. body program tables enters here env' b >>= finish kont)) acc) (deed_walk program tables sight sub left n site d env c None (λ env' c' d'. body_walk program tables sight sub left n here b env' c' d' k)))
            → G acc ((body program tables enters here env (step s d b) >>= finish kont) acc) → Matches ((body program tables enters here env (step s d b) >>= finish kont) acc) (body_walk program tables sight sub left n here (step s d b) env c None k)
        step_fits n here s d b env c kont k acc h known =
            let site : Site = record { procedure = here; statement = s } in
            let k' = λ (env' : Env) (c' : ℕ) (d' : Option Fault). body_walk program tables sight sub left n here b env' c' d' k in
            subst (λ m. G acc m → Matches m (deed_walk program tables sight sub left n site d env c None k')) (sym (step_apart program tables enters here s d b env kont acc)) h known

        -- the rest of a block goes on with a fault to answer
        pub rest_doomed : (n : Place) (here : Name) (b : Body) (k : Env → ℕ → Option Fault → Trace) → ((env : Env) (c : ℕ) (d : Option Fault) (e : Fault) → d ≡ Some e → (k env c d).outcome ≡ Err e) → (env : Env) (c : ℕ) (d : Option Fault) (e : Fault) → d ≡ Some e → (body_walk program tables sight sub left n here b env c d k).outcome ≡ Err e
        rest_doomed n here b k h env c d e' = has_body (Every Opens) _ _ doomed half_opens program tables sight sub sound left n here b env c d k (λ env'' c'' d'' e'' q. h env'' c'' d'' e'' q) e'

        mutual
          pub deed_fits : (n : Place) (site : Site) (d : Deed) → NoReadsDeed d → EntersOnlyDeed Quiet d → (env : Env) (c : ℕ) (kont : Env → Run ℤ) (k : Env → ℕ → Option Fault → Trace) → Goes n kont k → (acc : Accumulators) → G acc ((deed program tables enters site env d >>= finish kont) acc) → Matches ((deed program tables enters site env d >>= finish kont) acc) (deed_walk program tables sight sub left n site d env c None k)
          deed_fits n site (bind x e) nr en env c kont k g acc known = deed_eval site (value tables env e) (λ v. pure (On (put env x v))) kont acc _ (calm_value tables env e) known (λ v acc' g'. g.0 (put env x v) c acc' g')
          deed_fits n site (enter x Call f es) nr en env c kont k g acc known =
              deed_eval site (values tables env es) (λ vs. enters site f vs >>= (λ v. pure (On (put_into x env v)))) kont acc _ (calm_values tables env es) known (λ vs acc' g'.
              subst (λ m. G acc' m → Matches m (entering None site sub (λ go. after_call None (go f vs (child_of n c)) (λ v. k (put_into x env v) (suc c) None)))) (sym (bind_assoc (enters site f vs) (λ v. pure (On (put_into x env v))) (finish kont) acc'))
              (λ g''. enter_fits sub good site f en vs (λ v. kont (put_into x env v)) acc' _ (λ go e.
              let r = go f vs (child_of n c) in
              call_fits G onwards (enters site f vs acc') r.events r.outcome (λ v. kont (put_into x env v)) acc' (λ v. k (put_into x env v) (suc c) None) (e (child_of n c) acc') g'' (λ v acc'' q. g.0 (put_into x env v) (suc c) acc'' q))) g')
          deed_fits n site (enter x Spawn f es) nr en env c kont k g acc known =
              deed_eval site (values tables env es) (λ vs. enters site f vs >>= (λ v. pure (On (put_into x env v)))) kont acc _ (calm_values tables env es) known (λ vs acc' g'.
              subst (λ m. G acc' m → Matches m (entering None site sub (λ go. after_spawn (child_of n c) (go f vs (child_of n c)) (λ o. k (env_after env x o) (suc c) (doom_after None o))))) (sym (bind_assoc (enters site f vs) (λ v. pure (On (put_into x env v))) (finish kont) acc'))
              (λ g''. enter_fits sub good site f en vs (λ v. kont (put_into x env v)) acc' _ (λ go e.
              let r = go f vs (child_of n c) in
              spawn_fits G onwards (child_of n c) (enters site f vs acc') r.events r.outcome (λ v. kont (put_into x env v)) acc' (λ o. k (env_after env x o) (suc c) (doom_after None o)) (e (child_of n c) acc') g'' (λ v acc'' q. g.0 (put_into x env v) (suc c) acc'' q) (λ d. g.1 (env_after env x (Err d)) (suc c) (Some d) d refl))) g')
          deed_fits n site (read x r) nr en env c kont k g acc known = absurd nr
          deed_fits n site sync nr en env c kont k g acc known = fits_synced (kont env acc) n (k env c None).events (k env c None).outcome (g.0 env c acc known)
          deed_fits n site (update r es) nr en env c kont k g acc known = deed_eval site (update_of tables (reducers program) env r es) (λ u. pure (On env)) kont acc _ (calm_update tables (reducers program) env r es) known (λ u acc' g'. g.0 env c acc' g')
          deed_fits n site (choose e a b) nr en env c kont k g acc known =
              deed_eval site (value tables env e) (λ v. cond (int_eq v (pos 0)) (body program tables enters site.procedure env b) (body program tables enters site.procedure env a)) kont acc _ (calm_value tables env e) known (λ v acc' g'.
              either_fits (int_eq v (pos 0)) (body program tables enters site.procedure env b) (body program tables enters site.procedure env a) kont acc' _ _ (G acc') g' (λ q. body_fits n site.procedure b nr.1 en.1 env c kont k g acc' q) (λ q. body_fits n site.procedure a nr.0 en.0 env c kont k g acc' q))
          deed_fits n site (loop x e e' grain f es) nr en env c kont k g acc known =
              deed_eval site (bounds tables env e e') (λ range. all_turns program tables enters (job_of site env x f es grain range.0) range.1 >>= (λ u. pure (On env))) kont acc _ (calm_bounds tables env e e') known (λ range acc' g'.
              loop_deed n c env kont left (job_of site env x f es grain range.0) en range.1 (k env (suc c) None) (λ acc'' q. g.0 env (suc c) acc'' q) acc' g')
          deed_fits n site (give e) nr en env c kont k g acc known = deed_eval site (value tables env e) (λ v. pure (Back v)) kont acc _ (calm_value tables env e) known (λ v acc' g'. (refl, refl))

          pub body_fits : (n : Place) (here : Name) (b : Body) → NoReads b → EntersOnly Quiet b → (env : Env) (c : ℕ) (kont : Env → Run ℤ) (k : Env → ℕ → Option Fault → Trace) → Goes n kont k → (acc : Accumulators) → G acc ((body program tables enters here env b >>= finish kont) acc) → Matches ((body program tables enters here env b >>= finish kont) acc) (body_walk program tables sight sub left n here b env c None k)
          body_fits n here end nr en env c kont k g acc known = g.0 env c acc known
          body_fits n here (step s d b) nr en env c kont k g acc known =
              step_fits n here s d b env c kont k acc
              (deed_fits n (record { procedure = here; statement = s }) d nr.0 en.0 env c (λ env'. body program tables enters here env' b >>= finish kont) (λ env' c' d'. body_walk program tables sight sub left n here b env' c' d' k) ((λ env' c' acc' q. body_fits n here b nr.1 en.1 env' c' kont k g acc' q), rest_doomed n here b k g.1) acc) known

-- procedures that read no reducer and enter none but such
abbrev pub AreQuiet : (Name → Type 0) → Tree → Type 0
AreQuiet Quiet program = (f : Name) → Quiet f → NoReads (proc_of program f).body × EntersOnly Quiet (proc_of program f).body

module _ (Quiet : Name → Type 0) (program : Tree) (tables : Tables) (sight : Accumulators) where
  pub same_back : (x : Next) → pure (back_or_zero x) ≡ elim x as (λ x. Run ℤ) [ On env ↦ pure (pos 0) | Back v ↦ pure v ]
  same_back (On env) = refl
  same_back (Back v) = refl

  pub forgotten_opening : (look : Look) (left : ℕ) (f : Name) (vs : List ℤ) (n : Place) (memo : Bool) → forgotten (mark look f vs (depth_limit - left) memo ++ Enters f vs (depth_limit - left) ∷ []) ≡ Enters f vs (depth_limit - left) ∷ []
  forgotten_opening None left f vs n memo = refl
  forgotten_opening (Some l) left f vs n false = refl
  forgotten_opening (Some l) left f vs n true = refl

  pub quiet_opening : (look : Look) (left : ℕ) (f : Name) (vs : List ℤ) (n : Place) (memo : Bool) → first_fault (mark look f vs (depth_limit - left) memo ++ Enters f vs (depth_limit - left) ∷ []) ≡ None
  quiet_opening None left f vs n memo = refl
  quiet_opening (Some l) left f vs n false = refl
  quiet_opening (Some l) left f vs n true = refl

  pub over_doomed : (n : Place) (d : Option Fault) (e : Fault) → d ≡ Some e → (over n d (pos 0)).outcome ≡ Err e
  over_doomed n None e q = absurd cc
  over_doomed n (Some i) e q = let r : i ≡ e = cc in ap Err r

  pub elide_fits : AreQuiet Quiet program → (left : ℕ) (look : Look) → Elides Quiet program tables sight (elide program tables left) (runner program tables sight left look) (runner program tables sight left look)
  unfolding Elides runner elide
  elide_fits h zero look = λ site f vs acc. refl
  elide_fits h (suc left) look = λ site f vs n acc quiet.
      let k = inner program look left f vs in
      let sub = runner program tables sight left k in
      let p = proc_of program f in
      let w = run_inside program tables sight sub left f vs n in
      let env = fresh p.names vs in
      let b = body program tables (elide program tables left) p.called env p.body in
      let o = (b >>= (λ next. pure (back_or_zero next))) acc in
      let fit : Matches o w = subst (λ m. Matches m w) (λ q. (b >>= (λ x. sym (same_back x) q)) acc)
      (body_fits Quiet program tables sight (elide program tables left) sub (elide_fits h left k) Anything anything left (good_runs _ _ doomed program tables sight left k) n p.called p.body (h f quiet).0 (h f quiet).1 env 1 (λ env'. pure (pos 0)) (λ env' c d. over n d (pos 0)) ((λ env' c acc' g. (refl, refl)), (λ env' c d e q. over_doomed n d e q)) acc tt) in
      fits_led (Enters f vs (depth_limit - left) ∷ []) (w.events ++ Leaves n w.outcome ∷ []) o (opening program look left f vs n) w.outcome (sym (forgotten_opening look left f vs n p.memo)) (quiet_opening look left f vs n p.memo) (fits_closed o n w.events w.outcome fit)

  -- a quiet procedure's elision is its stretch of the trail
  pub quiet_fits : AreQuiet Quiet program → (left : ℕ) (look : Look) (site : Site) (f : Name) → Quiet f → (vs : List ℤ) (n : Place) (acc : Accumulators) → Matches (elide program tables (suc left) site f vs acc) (run program tables sight left look f vs n)
  unfolding Elides runner elide
  quiet_fits h left look site f quiet vs n acc = elide_fits h (suc left) look site f vs n acc quiet

-- where no procedure reads a reducer, all are quiet
abbrev pub AnyName : Name → Type 0
AnyName f = Unit {0}

mutual
  enters_any_deed : (d : Deed) → EntersOnlyDeed AnyName d
  enters_any_deed (bind x e) = tt
  enters_any_deed (enter x way f es) = tt
  enters_any_deed (read x r) = tt
  enters_any_deed sync = tt
  enters_any_deed (update r es) = tt
  enters_any_deed (choose e a b) = (enters_any a, enters_any b)
  enters_any_deed (loop x e f grain g es) = tt
  enters_any_deed (give e) = tt

  pub enters_any : (b : Body) → EntersOnly AnyName b
  enters_any end = tt
  enters_any (step s d b) = (enters_any_deed d, enters_any b)

module _ (program : Tree) (tables : Tables) (sight : Accumulators) where
  pub run_fits : HasNoReads program → (left : ℕ) (look : Look) (site : Site) (f : Name) (vs : List ℤ) (n : Place) (acc : Accumulators) → Matches (elide program tables (suc left) site f vs acc) (run program tables sight left look f vs n)
  run_fits h left look site f vs n acc = quiet_fits AnyName program tables sight (λ g q. (h g, enters_any (proc_of program g).body)) left look site f tt vs n acc
