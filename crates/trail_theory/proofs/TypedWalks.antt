-- Each update on the trail is of its reducer's kind.
use Rattle.std.proofs.Common.{ℕ, zero, suc, ◌+◌, ◌-◌, ◌<◌, ◌≤◌, List, [], ◌∷◌, ◌++◌, Option, Some, None, Result, Ok, Err, ℤ, pos, ◌⊎◌, inl, inr, arith, true, false, Bool, cond}
use Rattle.std.specs.Prelude.{nat_le, ◌/◌, ◌+ℤ◌}
use Rattle.std.specs.List.{AllByRecursion}
use Rattle.std.specs.Ordering.{int_eq}
use Rattle.std.proofs.Math.Nat.{div-le_self}
use Rattle.monoid_laws.specs.declared.Kind.{Kind}
use Rattle.monoid_laws.specs.Kinds.{Fits}
use Rattle.meaning.specs.Tree.{Name, Term, Deed, bind, enter, read, sync, update, choose, loop, give, Body, end, step, Tree}
use Rattle.meaning.specs.declared.tree.Way.TheVariants.{Call, Spawn}
use Rattle.meaning.specs.declared.FaultKind.{FaultKind}
use Rattle.meaning.specs.Tables.{Tables}
use Rattle.meaning.specs.Outcome.{Log, Accumulators, Fault, Site, Outcome, Place, Reads, Enters, Updates, Reuses, Begins, Syncs, Leaves, Faults, Marks, Spawns, Out}
use Rattle.meaning.specs.Values.{Env, put, value, values}
use Rattle.meaning.specs.Statements.{reducers, beginning, numbered, reading, Job, job_of, proc_of, fresh, put_into, update_of, bounds, turn_values}
use Rattle.meaning.specs.Elision.{depth_limit, main}
use Rattle.meaning.specs.Trail.{Trace, led, child_of, ended, env_after, doom_after, after_answer, evaluated, Go, Runner, entering, after_call, after_spawn, past_sync, over, closed, Look, mark, opening, inner, turns_walk, half_closed, loop_walk, half_run, halvings, deed_walk, body_walk, run_inside, runner, run, trail_at}
use Rattle.meaning.specs.SmallStep.{Lookup, look_of}
use Rattle.trail_theory.specs.Order.{Every}
use Rattle.trail_theory.specs.Right.{StretchesMultiply}
use Rattle.trail_theory.proofs.Products.{stretches_of}
use Rattle.trail_theory.specs.Waiting.{NoReadsDeed, NoReads}
use Rattle.trail_theory.specs.ReadsAtEnd.{IsOther, EntersOnlyDeed, EntersOnly, ReadsAtEnd, ReadsAtMainsEnd}
use Rattle.trail_theory.proofs.Elides.{AnyName, enters_any}
use Rattle.trail_theory.proofs.MainElides.{Still}
use Rattle.trail_theory.proofs.AfterReads.{ending_block}
use Rattle.meaning.specs.Fitting.{FitsTerm, FitsDeed, FitsBody, ProgramFits}
use Rattle.trail_theory.specs.Typed.{kinds_of, HasMonoids, IsTyped, TablesFit, SightFits}
use Rattle.trail_theory.proofs.Places.{every_append}
use Rattle.trail_theory.proofs.Beginnings.{beginning_typed}
use Rattle.trail_theory.proofs.FitValues.{FitsEnv, set_fits_env, put_fits, put_into_fits, fresh_fits, Gives, FitsOut, value_fits, values_fits, FitsRange, bounds_fits, update_fits}
use Rattle.trail_theory.proofs.FitNumbers.{zero_fits}

module _ (program : Tree) (tables : Tables) (sight : Accumulators) (numbers : ProgramFits program) (held : TablesFit tables) (May : Name → Type 0) where
  abbrev cs : List Kind
  cs = kinds_of program

  -- the updates of a trace are typed, and its number fits
  abbrev GoodFor : (ℤ → Type 0) → Trace → Type 0
  GoodFor R r = Every (IsTyped cs) r.events × Gives R r.outcome

  abbrev Good : Trace → Type 0
  Good r = GoodFor Fits r

  -- what a read sees fits, or nothing reads
  abbrev SafeDeed : Deed → Type 0
  SafeDeed d = SightFits program sight ⊎ NoReadsDeed d

  abbrev Safe : Body → Type 0
  Safe b = SightFits program sight ⊎ NoReads b

  safe_first : (s : ℕ) (d : Deed) (b : Body) → Safe (step s d b) → SafeDeed d
  safe_first s d b (inl h) = inl h
  safe_first s d b (inr h) = inr h.0

  safe_rest : (s : ℕ) (d : Deed) (b : Body) → Safe (step s d b) → Safe b
  safe_rest s d b (inl h) = inl h
  safe_rest s d b (inr h) = inr h.1

  safe_left : (e : Term) (a b : Body) → SafeDeed (choose e a b) → Safe a
  safe_left e a b (inl h) = inl h
  safe_left e a b (inr h) = inr h.0

  safe_right : (e : Term) (a b : Body) → SafeDeed (choose e a b) → Safe b
  safe_right e a b (inl h) = inl h
  safe_right e a b (inr h) = inr h.1

  -- procedures that may be entered
  abbrev AreSafe : Type 0
  AreSafe = (f : Name) → May f → Safe (proc_of program f).body × EntersOnly May (proc_of program f).body

  abbrev FitsOf : {F A : Type 0} → (A → Type 0) → Out F A → Type 0
  FitsOf P o = FitsOut cs P o

  good_over : (R : ℤ → Type 0) (n : Place) (doom : Option Fault) (v : ℤ) → R v → GoodFor R (over n doom v)
  good_over R n None v f = ((tt, tt), f)
  good_over R n (Some k) v f = ((tt, tt), tt)

  good_after_answer : (R : ℤ → Type 0) {A : Type 0} (P : A → Type 0) (doom : Option Fault) (site : Site) (r : Result A FaultKind) (next : A → Trace) → Gives P r → ((a : A) → P a → GoodFor R (next a)) → GoodFor R (after_answer doom site r next)
  good_after_answer R P doom site (Ok a) next p h = h a p
  good_after_answer R P doom site (Err k) next p h = ((tt, tt), tt)

  good_led : (R : ℤ → Type 0) (es : Log) (r : Trace) → Every (IsTyped cs) es → GoodFor R r → GoodFor R (led es r)
  good_led R es r t h = (every_append (IsTyped cs) es r.events t h.0, h.1)

  good_evaluated : (R : ℤ → Type 0) {A : Type 0} (P : A → Type 0) (doom : Option Fault) (site : Site) (o : Out FaultKind A) (next : A → Trace) → FitsOf P o → ((a : A) → P a → GoodFor R (next a)) → GoodFor R (evaluated doom site o next)
  good_evaluated R P doom site o next f h = good_led R o.log (after_answer doom site o.answer next) f.0 (good_after_answer R P doom site o.answer next f.1 h)

  good_call : (R : ℤ → Type 0) (doom : Option Fault) (es : Log) (o : Outcome) (next : ℤ → Trace) → Good (record { events = es; outcome = o }) → ((v : ℤ) → Fits v → GoodFor R (next v)) → GoodFor R (after_call doom (record { events = es; outcome = o }) next)
  good_call R doom es (Ok v) next g h = good_led R es (next v) g.0 (h v g.1)
  good_call R doom es (Err k) next g h = (every_append (IsTyped cs) es [] g.0 tt, tt)

  good_spawn : (R : ℤ → Type 0) (p : Place) (r : Trace) (next : Outcome → Trace) → Good r → ((o : Outcome) → Gives Fits o → GoodFor R (next o)) → GoodFor R (after_spawn p r next)
  good_spawn R p r next g h = good_led R (Spawns p ∷ r.events) (next r.outcome) (tt, g.0) (h r.outcome g.1)

  good_past : (R : ℤ → Type 0) (doom : Option Fault) (r : Trace) → GoodFor R r → GoodFor R (past_sync doom r)
  good_past R None r h = h
  good_past R (Some k) r h = (tt, tt)

  good_closed : (R : ℤ → Type 0) (ops : Log) (n : Place) (r : Trace) → Every (IsTyped cs) ops → GoodFor R r → GoodFor R (closed ops n r)
  good_closed R ops n r t h = (every_append (IsTyped cs) ops (r.events ++ Leaves n r.outcome ∷ []) t (every_append (IsTyped cs) r.events (Leaves n r.outcome ∷ []) h.0 (tt, tt)), h.1)

  good_cond : (R : ℤ → Type 0) (b : Bool) (x y : Trace) → GoodFor R x → GoodFor R y → GoodFor R (cond b x y)
  good_cond R true x y h k = h
  good_cond R false x y h k = k

  env_after_fits : (x : Option ℕ) (env : Env) (o : Outcome) → Gives Fits o → FitsEnv env → FitsEnv (env_after env x o)
  env_after_fits x env (Ok v) f h = put_into_fits x env v f h
  env_after_fits None env (Err k) f h = h
  env_after_fits (Some x) env (Err k) f h = set_fits_env env x None tt h

  GoodRuns : Runner → Type 0
  GoodRuns None = Unit {0}
  GoodRuns (Some go) = (f : Name) (vs : List ℤ) (n : Place) → May f → Every Fits vs → Good (go f vs n)

  good_entering : (R : ℤ → Type 0) (doom : Option Fault) (site : Site) (sub : Runner) (next : Go → Trace) → GoodRuns sub → ((go : Go) → ((f : Name) (vs : List ℤ) (n : Place) → May f → Every Fits vs → Good (go f vs n)) → GoodFor R (next go)) → GoodFor R (entering doom site sub next)
  unfolding GoodRuns
  good_entering R doom site None next g h = ((tt, tt), tt)
  good_entering R doom site (Some go) next g h = h go g

  -- a loop whose numbers fit, so many from the i-th on
  record GoodJob (job : Job) (count i : ℕ) : Type 0 where
    env : FitsEnv job.env
    args : AllByRecursion FitsTerm job.args
    callee : May job.callee
    range : (j : ℕ) → i ≤ j → j < i + count → Fits (job.low +ℤ pos j)

  part : (job : Job) (count i m j : ℕ) → i ≤ j → j + m ≤ i + count → GoodJob job count i → GoodJob job m j
  part job count i m j a b g = record { env = g.env; args = g.args; callee = g.callee; range = λ k l h. g.range k (omega arith) (omega arith) }

  module _ (sub : Runner) (good : GoodRuns sub) where
    good_turns : (job : Job) (count i : ℕ) (n : Place) (c : ℕ) (doom : Option Fault) → GoodJob job count i → Good (turns_walk program tables sight sub job count i n c doom)
    good_turns job zero i n c doom g = good_over Fits n doom (pos 0) zero_fits
    good_turns job (suc count) i n c doom g =
        good_evaluated Fits (Every Fits) doom job.site (turn_values tables job i) _
        (values_fits cs tables held (put job.env job.variable (job.low +ℤ pos i)) job.args (put_fits job.env job.variable (job.low +ℤ pos i) (g.range i (omega arith) (omega arith)) g.env) g.args) (λ vs f.
        good_entering Fits doom job.site sub _ good (λ go h.
        let r = go job.callee vs (child_of n c) in
        good_call Fits doom r.events r.outcome (λ v. turns_walk program tables sight sub job count (suc i) n (suc c) doom) (h job.callee vs (child_of n c) g.callee f) (λ v f'. good_turns job count (suc i) n (suc c) doom (part job (suc count) i count (suc i) (omega arith) (omega arith) g))))

    module _ (left : ℕ) where
      good_half : (n : Place) (r : Trace) → Good r → Good (half_closed program tables sight sub left n r)
      good_half n r h = good_closed Fits (Begins n (depth_limit - left) ∷ []) n r (tt, tt) h

      good_loop : (k : ℕ) (job : Job) (count i : ℕ) (n : Place) (c : ℕ) (doom : Option Fault) → GoodJob job count i → Good (loop_walk program tables sight sub left k job count i n c doom)
      good_loop zero job count i n c doom g = good_turns job count i n c doom g
      good_loop (suc k) job count i n c doom g =
          let a = half_run program tables sight sub left k job (count / 2) i (child_of n c) in
          let b = half_run program tables sight sub left k job (count - count / 2) (i + count / 2) (child_of n (suc c)) in
          let whole : count / 2 ≤ count = div-le_self count 2 in
          good_cond Fits (nat_le count job.grain) _ _ (good_turns job count i n c doom g)
          (good_spawn Fits (child_of n c) a (λ o. after_call (doom_after doom o) b (λ v. over n (doom_after doom o) (pos 0))) (good_half (child_of n c) _ (good_loop k job (count / 2) i (child_of n c) 1 None (part job count i (count / 2) i (omega arith) (omega (arith, whole)) g))) (λ o f.
          good_call Fits (doom_after doom o) b.events b.outcome (λ v. over n (doom_after doom o) (pos 0)) (good_half (child_of n (suc c)) _ (good_loop k job (count - count / 2) (i + count / 2) (child_of n (suc c)) 1 None (part job count i (count - count / 2) (i + count / 2) (omega arith) (omega (arith, whole)) g))) (λ v f'. good_over Fits n (doom_after doom o) (pos 0) zero_fits)))

      module _ (R : ℤ → Type 0) (into : (v : ℤ) → Fits v → R v) where
        abbrev Goes : (Env → ℕ → Option Fault → Trace) → Type 0
        Goes k = (env : Env) (c : ℕ) (doom : Option Fault) → FitsEnv env → GoodFor R (k env c doom)

        mutual
          good_deed : (n : Place) (site : Site) (d : Deed) (env : Env) (c : ℕ) (doom : Option Fault) (k : Env → ℕ → Option Fault → Trace) → FitsDeed d → SafeDeed d → EntersOnlyDeed May d → FitsEnv env → Goes k → GoodFor R (deed_walk program tables sight sub left n site d env c doom k)
          good_deed n site (bind x e) env c doom k f safe may g h = good_evaluated R Fits doom site (value tables env e) _ (value_fits cs tables held env e g f) (λ v f'. h (put env x v) c doom (put_fits env x v f' g))
          good_deed n site (enter x Call f' es) env c doom k f safe may g h =
              good_evaluated R (Every Fits) doom site (values tables env es) _ (values_fits cs tables held env es g f) (λ vs fs. good_entering R doom site sub _ good (λ go r.
              let w = go f' vs (child_of n c) in
              good_call R doom w.events w.outcome (λ v. k (put_into x env v) (suc c) doom) (r f' vs (child_of n c) may fs) (λ v fv. h (put_into x env v) (suc c) doom (put_into_fits x env v fv g))))
          good_deed n site (enter x Spawn f' es) env c doom k f safe may g h =
              good_evaluated R (Every Fits) doom site (values tables env es) _ (values_fits cs tables held env es g f) (λ vs fs. good_entering R doom site sub _ good (λ go r.
              good_spawn R (child_of n c) (go f' vs (child_of n c)) (λ o. k (env_after env x o) (suc c) (doom_after doom o)) (r f' vs (child_of n c) may fs) (λ o fo. h (env_after env x o) (suc c) (doom_after doom o) (env_after_fits x env o fo g))))
          good_deed n site (read x r) env c doom k f (inl seen) may g h = h (put env x (reading sight (numbered 0 (reducers program) r))) c doom (put_fits env x (reading sight (numbered 0 (reducers program) r)) (seen r) g)
          good_deed n site (read x r) env c doom k f (inr never) may g h = absurd never
          good_deed n site sync env c doom k f safe may g h = good_led R (Syncs n ∷ []) (past_sync doom (k env c None)) (tt, tt) (good_past R doom (k env c None) (h env c None g))
          good_deed n site (update r es) env c doom k f safe may g h = good_evaluated R (λ u. Unit {0}) doom site (update_of tables (reducers program) env r es) _ (update_fits program tables held env r es g f) (λ u p. h env c doom g)
          good_deed n site (choose e a b) env c doom k f safe may g h =
              good_evaluated R Fits doom site (value tables env e) _ (value_fits cs tables held env e g f.0) (λ v fv. good_cond R (int_eq v (pos 0)) _ _ (good_body n site.procedure b env c doom k f.1.1 (safe_right e a b safe) may.1 g h) (good_body n site.procedure a env c doom k f.1.0 (safe_left e a b safe) may.0 g h))
          good_deed n site (loop x e e' grain f' es) env c doom k f safe may g h =
              good_evaluated R (FitsRange cs tables held) doom site (bounds tables env e e') _ (bounds_fits cs tables held env e e' g f.0 f.1.0) (λ range p.
              let job = job_of site env x f' es grain range.0 in
              let w = half_run program tables sight sub left halvings job range.1 0 (child_of n c) in
              good_call R doom w.events w.outcome (λ v. k env (suc c) doom) (good_half (child_of n c) _ (good_loop halvings job range.1 0 (child_of n c) 1 None (record { env = g; args = f.1.1; callee = may; range = λ j l q. p.1 j (omega arith) }))) (λ v fv. h env (suc c) doom g))
          good_deed n site (give e) env c doom k f safe may g h = good_evaluated R Fits doom site (value tables env e) _ (value_fits cs tables held env e g f) (λ v fv. good_over R n doom v (into v fv))

          good_body : (n : Place) (here : Name) (b : Body) (env : Env) (c : ℕ) (doom : Option Fault) (k : Env → ℕ → Option Fault → Trace) → FitsBody b → Safe b → EntersOnly May b → FitsEnv env → Goes k → GoodFor R (body_walk program tables sight sub left n here b env c doom k)
          good_body n here end env c doom k f safe may g h = h env c doom g
          good_body n here (step s d b) env c doom k f safe may g h =
              good_deed n (record { procedure = here; statement = s }) d env c doom _ f.0 (safe_first s d b safe) may.0 g (λ env' c' doom' g'. good_body n here b env' c' doom' k f.1 (safe_rest s d b safe) may.1 g' h)

  typed_opening : (look : Look) (left : ℕ) (f : Name) (vs : List ℤ) (n : Place) → Every (IsTyped cs) (opening program look left f vs n)
  typed_opening look left f vs n = (tt, marks look (proc_of program f).memo)
    where
      marks : (look : Look) (memo : Bool) → Every (IsTyped cs) (mark look f vs (depth_limit - left) memo ++ Enters f vs (depth_limit - left) ∷ [])
      marks None memo = (tt, tt)
      marks (Some l) false = (tt, tt)
      marks (Some l) true = (tt, (tt, tt))

  good_inside : (sub : Runner) → GoodRuns sub → AreSafe → (left : ℕ) (f : Name) (vs : List ℤ) (n : Place) → May f → Every Fits vs → Good (run_inside program tables sight sub left f vs n)
  good_inside sub good are left f vs n m h =
      good_body sub good left Fits (λ v fv. fv) n (proc_of program f).called (proc_of program f).body (fresh (proc_of program f).names vs) 1 None _ (numbers.bodies f) (are f m).0 (are f m).1 (fresh_fits (proc_of program f).names vs h) (λ env c doom g. good_over Fits n doom (pos 0) zero_fits)

  good_runs : AreSafe → (left : ℕ) (look : Look) → GoodRuns (runner program tables sight left look)
  unfolding GoodRuns runner
  good_runs are zero look = tt
  good_runs are (suc left) look = λ f vs n m h. good_closed Fits (opening program look left f vs n) n _ (typed_opening look left f vs n) (good_inside (runner program tables sight left (inner program look left f vs)) (good_runs are left (inner program look left f vs)) are left f vs n m h)

  pub run_typed : AreSafe → (left : ℕ) (look : Look) (f : Name) (vs : List ℤ) (n : Place) → May f → Every Fits vs → Good (run program tables sight left look f vs n)
  run_typed are left look f vs n m h = good_closed Fits (opening program look left f vs n) n _ (typed_opening look left f vs n) (good_inside (runner program tables sight left (inner program look left f vs)) (good_runs are left (inner program look left f vs)) are left f vs n m h)

pub trail_typed : (program : Tree) (tables : Tables) (sight : Accumulators) → ProgramFits program → TablesFit tables → SightFits program sight → (look : Look) → Every (IsTyped (kinds_of program)) (trail_at program tables sight look)
trail_typed program tables sight numbers held seen look =
    every_append (IsTyped (kinds_of program)) (beginning program) (run program tables sight (depth_limit - 1) look main [] []).events (beginning_typed program numbers)
    (run_typed program tables sight numbers held AnyName (λ f m. (inl seen, enters_any (proc_of program f).body)) (depth_limit - 1) look main [] [] tt tt).0

-- so neighbouring stretches multiply
pub stretches_multiply : (program : Tree) (tables : Tables) (sight : Accumulators) (lookup : Lookup) → HasMonoids program → ProgramFits program → TablesFit tables → SightFits program sight → StretchesMultiply program tables sight lookup
stretches_multiply program tables sight lookup good numbers held seen = stretches_of program tables sight lookup good (trail_typed program tables sight numbers held seen (look_of lookup))

-- ---- where main alone reads, at its end, whatever a read sees

still_typed : (kinds : List Kind) (es : Log) → Still es → Every (IsTyped kinds) es
still_typed kinds [] h = tt
still_typed kinds (Updates n kind w ∷ es) h = absurd h.0
still_typed kinds (Reuses f args ws ∷ es) h = absurd h.0
still_typed kinds (Reads r ∷ es) h = (tt, still_typed kinds es h.1)
still_typed kinds (Enters f args d ∷ es) h = (tt, still_typed kinds es h.1)
still_typed kinds (Begins n d ∷ es) h = (tt, still_typed kinds es h.1)
still_typed kinds (Syncs n ∷ es) h = (tt, still_typed kinds es h.1)
still_typed kinds (Spawns n ∷ es) h = (tt, still_typed kinds es h.1)
still_typed kinds (Leaves n v ∷ es) h = (tt, still_typed kinds es h.1)
still_typed kinds (Faults k ∷ es) h = (tt, still_typed kinds es h.1)
still_typed kinds (Marks f args c ∷ es) h = (tt, still_typed kinds es h.1)

module _ (program : Tree) (tables : Tables) (sight : Accumulators) (numbers : ProgramFits program) (held : TablesFit tables) (ruled : ReadsAtMainsEnd program) (sub : Runner) (good : GoodRuns program tables sight numbers held IsOther sub) (left : ℕ) (n : Place) (here : Name) where
  abbrev AnyNumber : ℤ → Type 0
  AnyNumber v = Unit {0}

  any_outcome : (o : Outcome) → Gives AnyNumber o
  any_outcome (Ok v) = tt
  any_outcome (Err k) = tt

  abbrev End : Env → ℕ → Option Fault → Trace
  End env c doom = over n doom (pos 0)

  abbrev TypedBlock : Body → Type 0
  TypedBlock b = (env : Env) (c : ℕ) (doom : Option Fault) → FitsEnv env → GoodFor program tables sight numbers held IsOther AnyNumber (body_walk program tables sight sub left n here b env c doom End)

  typed_step : (s : ℕ) (d : Deed) (b : Body) → FitsDeed d → NoReadsDeed d → EntersOnlyDeed IsOther d → TypedBlock b → TypedBlock (step s d b)
  typed_step s d b f nr may h env c doom g =
      good_deed program tables sight numbers held IsOther sub good left AnyNumber (λ v fv. tt) n (record { procedure = here; statement = s }) d env c doom (λ env' c' doom'. body_walk program tables sight sub left n here b env' c' doom' End) f (inr nr) may g h

  main_typed : (b : Body) (synced : Bool) → ReadsAtEnd synced b → EntersOnly IsOther b → FitsBody b → TypedBlock b
  main_typed end synced h may f env c doom g = ((tt, tt), any_outcome (ended doom (pos 0)))
  main_typed (step s (bind x e) b) synced h may f env c doom g = typed_step s (bind x e) b f.0 h.0 may.0 (main_typed b _ h.1 may.1 f.1) env c doom g
  main_typed (step s (enter x way q es) b) synced h may f env c doom g = typed_step s (enter x way q es) b f.0 h.0 may.0 (main_typed b _ h.1 may.1 f.1) env c doom g
  main_typed (step s (read x r) b) synced h may f env c doom g =
      (still_typed (kinds_of program) _ (ending_block program tables sight sub left n here (step s (read x r) b) h.1 env c doom End (λ env' c' doom'. (tt, tt))), any_outcome (body_walk program tables sight sub left n here (step s (read x r) b) env c doom End).outcome)
  main_typed (step s sync b) synced h may f env c doom g = typed_step s sync b f.0 tt may.0 (main_typed b true h may.1 f.1) env c doom g
  main_typed (step s (update r es) b) synced h may f env c doom g = typed_step s (update r es) b f.0 h.0 may.0 (main_typed b _ h.1 may.1 f.1) env c doom g
  main_typed (step s (choose e x y) b) synced h may f env c doom g = typed_step s (choose e x y) b f.0 h.0 may.0 (main_typed b _ h.1 may.1 f.1) env c doom g
  main_typed (step s (loop x e e' grain q es) b) synced h may f env c doom g = typed_step s (loop x e e' grain q es) b f.0 h.0 may.0 (main_typed b _ h.1 may.1 f.1) env c doom g
  main_typed (step s (give e) b) synced h may f env c doom g = typed_step s (give e) b f.0 h.0 may.0 (main_typed b _ h.1 may.1 f.1) env c doom g

pub trail_typed_reading : (program : Tree) (tables : Tables) (sight : Accumulators) → ReadsAtMainsEnd program → ProgramFits program → TablesFit tables → (look : Look) → Every (IsTyped (kinds_of program)) (trail_at program tables sight look)
trail_typed_reading program tables sight ruled numbers held look =
    let left = depth_limit - 1 in
    let k = inner program look left main [] in
    let sub = runner program tables sight left k in
    let p = proc_of program main in
    let w = run_inside program tables sight sub left main [] [] in
    let good = good_runs program tables sight numbers held IsOther (λ f other. (inr (ruled.elsewhere f other), ruled.alone f)) left k in
    let inside = main_typed program tables sight numbers held ruled sub good left [] p.called p.body true ruled.in_main (ruled.alone main) (numbers.bodies main) (fresh p.names []) 1 None (fresh_fits p.names [] tt) in
    let ops = opening program look left main [] [] in
    every_append (IsTyped (kinds_of program)) (beginning program) (ops ++ (w.events ++ Leaves [] w.outcome ∷ [])) (beginning_typed program numbers)
    (every_append (IsTyped (kinds_of program)) ops (w.events ++ Leaves [] w.outcome ∷ []) (typed_opening program tables sight numbers held IsOther look left main [] []) (every_append (IsTyped (kinds_of program)) w.events (Leaves [] w.outcome ∷ []) inside.0 (tt, tt)))

pub stretches_multiply_reading : (program : Tree) (tables : Tables) (sight : Accumulators) (lookup : Lookup) → ReadsAtMainsEnd program → HasMonoids program → ProgramFits program → TablesFit tables → StretchesMultiply program tables sight lookup
stretches_multiply_reading program tables sight lookup ruled good numbers held = stretches_of program tables sight lookup good (trail_typed_reading program tables sight ruled numbers held (look_of lookup))
