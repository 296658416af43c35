-- One induction over the serial walk, for properties that its pieces keep.
use Rattle.std.proofs.Common.{ℕ, zero, suc, ◌+◌, ◌-◌, List, [], ◌∷◌, ◌++◌, Option, Some, None, Result, Ok, Err, ℤ, pos, true, false, Bool, cond}
use Rattle.std.specs.Prelude.{nat_le, ◌/◌, ◌+ℤ◌}
use Rattle.std.specs.Ordering.{int_eq}
use Rattle.meaning.specs.Tree.{Name, Deed, bind, enter, read, sync, update, choose, loop, give, Body, end, step, Tree}
use Rattle.meaning.specs.declared.tree.Way.TheVariants.{Call, Spawn}
use Rattle.meaning.specs.declared.FaultKind.{FaultKind}
use Rattle.meaning.specs.declared.FaultKind.TheVariants.{TooDeep}
use Rattle.meaning.specs.Tables.{Tables}
use Rattle.meaning.specs.Outcome.{Log, Accumulators, Fault, Site, Outcome, Place, Event, Reads, Enters, Updates, Reuses, Begins, Syncs, Leaves, Faults, Marks, Spawns, Out}
use Rattle.meaning.specs.Values.{Env, put, value, values}
use Rattle.meaning.specs.Statements.{reducers, Job, job_of, proc_of, fresh, update_of, bounds, turn_values}
use Rattle.meaning.specs.Trail.{Trace, led, child_of, fault_at, env_after, doom_after, stop, after_answer, evaluated, Go, Runner, entering, after_call, after_spawn, past_sync, over, closed, Look, mark, opening, inner, turns_walk, loop_walk, half_run, halvings, deed_walk, body_walk, blocks_walk, run_inside, runner, run}
use Rattle.trail_theory.specs.Order.{Every}
use Rattle.trail_theory.proofs.Evaluations.{Told, Calm, calm_value, calm_values, calm_update, calm_bounds}
use Rattle.meaning.specs.Elision.{depth_limit}

-- what an instance's entering notes
abbrev pub Opens : Event → Type 0
Opens (Begins n depth) = Unit {0}
Opens (Marks f args b) = Unit {0}
Opens (Enters f args depth) = Unit {0}
Opens (Reads r) = ⊥
Opens (Updates n kind w) = ⊥
Opens (Reuses f args ws) = ⊥
Opens (Syncs n) = ⊥
Opens (Spawns n) = ⊥
Opens (Leaves n v) = ⊥
Opens (Faults k) = ⊥

-- Q of an instance's rest, from its c-th child on, with a fault to answer or none; R of a whole instance whose entering is as O says
pub record ClosedBy (O : Log → Type 0) (Q : Place → ℕ → Option Fault → Trace → Type 0) (R : Place → Trace → Type 0) : Type 0 where
  pub stops : (n : Place) (c : ℕ) (doom : Option Fault) (k : Fault) → Q n c doom (stop doom k)
  pub overs : (n : Place) (c : ℕ) (doom : Option Fault) (v : ℤ) → Q n c doom (over n doom v)
  pub leds : (n : Place) (c : ℕ) (doom : Option Fault) (es : Log) (r : Trace) → Every Told es → Q n c doom r → Q n c doom (led es r)
  pub calls : (n : Place) (c : ℕ) (doom : Option Fault) (r : Trace) (next : ℤ → Trace) → R (child_of n c) r → ((v : ℤ) → Q n (suc c) doom (next v)) → Q n c doom (after_call doom r next)
  pub spawns : (n : Place) (c : ℕ) (doom : Option Fault) (r : Trace) (next : Outcome → Trace) → R (child_of n c) r → Q n (suc c) (doom_after doom r.outcome) (next r.outcome) → Q n c doom (after_spawn (child_of n c) r next)
  pub syncs : (n : Place) (c : ℕ) (doom : Option Fault) (r : Trace) → Q n c None r → Q n c doom (led (Syncs n ∷ []) (past_sync doom r))
  pub closes : (n : Place) (ops : Log) (r : Trace) → O ops → Q n 1 None r → R n (closed ops n r)

abbrev pub Closed : (Place → ℕ → Option Fault → Trace → Type 0) → (Place → Trace → Type 0) → Type 0
Closed Q R = ClosedBy (Every Opens) Q R

pub half_opens : (n : Place) (d : ℕ) → Every Opens (Begins n d ∷ [])
half_opens n d = (tt, tt)

module _ (O : Log → Type 0) (Q : Place → ℕ → Option Fault → Trace → Type 0) (R : Place → Trace → Type 0) (q : ClosedBy O Q R) (halves : (n : Place) (d : ℕ) → O (Begins n d ∷ [])) (program : Tree) (tables : Tables) (sight : Accumulators) where
  pub GoodRuns : Runner → Type 0
  GoodRuns None = Unit {0}
  GoodRuns (Some go) = (f : Name) (vs : List ℤ) (n : Place) → R n (go f vs n)

  has_after_answer : {A : Type 0} (n : Place) (c : ℕ) (doom : Option Fault) (site : Site) (r : Result A FaultKind) (next : A → Trace) → ((a : A) → Q n c doom (next a)) → Q n c doom (after_answer doom site r next)
  has_after_answer n c doom site (Ok a) next h = h a
  has_after_answer n c doom site (Err k) next h = q.stops n c doom (fault_at site k)

  has_evaluated : {A : Type 0} (n : Place) (c : ℕ) (doom : Option Fault) (site : Site) (o : Out FaultKind A) (next : A → Trace) → Calm o → ((a : A) → Q n c doom (next a)) → Q n c doom (evaluated doom site o next)
  has_evaluated n c doom site o next calm h = q.leds n c doom o.log (after_answer doom site o.answer next) calm (has_after_answer n c doom site o.answer next h)

  has_entering : (n : Place) (c : ℕ) (doom : Option Fault) (site : Site) (sub : Runner) (next : Go → Trace) → GoodRuns sub → ((go : Go) → ((f : Name) (vs : List ℤ) (n : Place) → R n (go f vs n)) → Q n c doom (next go)) → Q n c doom (entering doom site sub next)
  unfolding GoodRuns
  has_entering n c doom site None next g h = q.stops n c doom (fault_at site TooDeep)
  has_entering n c doom site (Some go) next g h = h go g

  has_cond : (n : Place) (c : ℕ) (doom : Option Fault) (b : Bool) (x y : Trace) → Q n c doom x → Q n c doom y → Q n c doom (cond b x y)
  has_cond n c doom true x y h k = h
  has_cond n c doom false x y h k = k

  module _ (sub : Runner) (good : GoodRuns sub) where
    has_turns : (job : Job) (count i : ℕ) (n : Place) (c : ℕ) (doom : Option Fault) → Q n c doom (turns_walk program tables sight sub job count i n c doom)
    has_turns job zero i n c doom = q.overs n c doom (pos 0)
    has_turns job (suc count) i n c doom =
        has_evaluated n c doom job.site (turn_values tables job i) _ (calm_values tables (put job.env job.variable (job.low +ℤ pos i)) job.args) (λ vs.
        has_entering n c doom job.site sub _ good (λ go h. q.calls n c doom (go job.callee vs (child_of n c)) _ (h job.callee vs (child_of n c)) (λ v. has_turns job count (suc i) n (suc c) doom)))

    module _ (left : ℕ) where
      pub has_loop : (k : ℕ) (job : Job) (count i : ℕ) (n : Place) (c : ℕ) (doom : Option Fault) → Q n c doom (loop_walk program tables sight sub left k job count i n c doom)
      has_loop zero job count i n c doom = has_turns job count i n c doom
      has_loop (suc k) job count i n c doom =
          let a = half_run program tables sight sub left k job (count / 2) i (child_of n c) in
          let b = half_run program tables sight sub left k job (count - count / 2) (i + count / 2) (child_of n (suc c)) in
          has_cond n c doom (nat_le count job.grain) _ _ (has_turns job count i n c doom)
          (q.spawns n c doom a (λ o. after_call (doom_after doom o) b (λ v. over n (doom_after doom o) (pos 0))) (q.closes (child_of n c) (Begins (child_of n c) (depth_limit - left) ∷ []) _ (halves _ _) (has_loop k job (count / 2) i (child_of n c) 1 None))
          (q.calls n (suc c) (doom_after doom a.outcome) b (λ v. over n (doom_after doom a.outcome) (pos 0)) (q.closes (child_of n (suc c)) (Begins (child_of n (suc c)) (depth_limit - left) ∷ []) _ (halves _ _) (has_loop k job (count - count / 2) (i + count / 2) (child_of n (suc c)) 1 None)) (λ v. q.overs n (suc (suc c)) (doom_after doom a.outcome) (pos 0))))

      mutual
        pub has_deed : (n : Place) (site : Site) (d : Deed) (env : Env) (c : ℕ) (doom : Option Fault) (k : Env → ℕ → Option Fault → Trace) → ((env : Env) (c : ℕ) (doom : Option Fault) → Q n c doom (k env c doom)) → Q n c doom (deed_walk program tables sight sub left n site d env c doom k)
        has_deed n site (bind x e) env c doom k h = has_evaluated n c doom site (value tables env e) _ (calm_value tables env e) (λ v. h _ c doom)
        has_deed n site (enter x Call f es) env c doom k h =
            has_evaluated n c doom site (values tables env es) _ (calm_values tables env es) (λ vs. has_entering n c doom site sub _ good (λ go g. q.calls n c doom (go f vs (child_of n c)) _ (g f vs (child_of n c)) (λ v. h _ (suc c) doom)))
        has_deed n site (enter x Spawn f es) env c doom k h =
            has_evaluated n c doom site (values tables env es) _ (calm_values tables env es) (λ vs. has_entering n c doom site sub _ good (λ go g. q.spawns n c doom (go f vs (child_of n c)) (λ o. k (env_after env x o) (suc c) (doom_after doom o)) (g f vs (child_of n c)) (h _ (suc c) _)))
        has_deed n site (read x r) env c doom k h = h _ c doom
        has_deed n site sync env c doom k h = q.syncs n c doom _ (h env c None)
        has_deed n site (update r es) env c doom k h = has_evaluated n c doom site (update_of tables (reducers program) env r es) _ (calm_update tables (reducers program) env r es) (λ u. h env c doom)
        has_deed n site (choose e a b) env c doom k h =
            has_evaluated n c doom site (value tables env e) _ (calm_value tables env e) (λ v. has_cond n c doom (int_eq v (pos 0)) _ _ (has_body n site.procedure b env c doom k h) (has_body n site.procedure a env c doom k h))
        has_deed n site (loop x e f grain g es) env c doom k h =
            has_evaluated n c doom site (bounds tables env e f) _ (calm_bounds tables env e f) (λ range.
            q.calls n c doom (half_run program tables sight sub left halvings (job_of site env x g es grain range.0) range.1 0 (child_of n c)) _ (q.closes (child_of n c) (Begins (child_of n c) (depth_limit - left) ∷ []) _ (halves _ _) (has_loop halvings (job_of site env x g es grain range.0) range.1 0 (child_of n c) 1 None)) (λ v. h env (suc c) doom))
        has_deed n site (give e) env c doom k h = has_evaluated n c doom site (value tables env e) _ (calm_value tables env e) (λ v. q.overs n c doom v)

        pub has_body : (n : Place) (here : Name) (b : Body) (env : Env) (c : ℕ) (doom : Option Fault) (k : Env → ℕ → Option Fault → Trace) → ((env : Env) (c : ℕ) (doom : Option Fault) → Q n c doom (k env c doom)) → Q n c doom (body_walk program tables sight sub left n here b env c doom k)
        has_body n here end env c doom k h = h env c doom
        has_body n here (step s d b) env c doom k h = has_deed n (record { procedure = here; statement = s }) d env c doom _ (λ env' c' doom'. has_body n here b env' c' doom' k h)

      pub has_blocks : (n : Place) (here : Name) (bs : List Body) (env : Env) (c : ℕ) (doom : Option Fault) → Q n c doom (blocks_walk program tables sight sub left n here bs env c doom)
      has_blocks n here [] env c doom = q.overs n c doom (pos 0)
      has_blocks n here (b ∷ bs) env c doom = has_body n here b env c doom _ (λ env' c' doom'. has_blocks n here bs env' c' doom')

  -- where the looks of some kind have such enterings
  pub runs_by : (Fine : Look → Type 0) → ((left : ℕ) (look : Look) (f : Name) (vs : List ℤ) (n : Place) → Fine look → O (opening program look left f vs n) × Fine (inner program look left f vs)) → (left : ℕ) (look : Look) → Fine look → GoodRuns (runner program tables sight left look)
  unfolding GoodRuns runner
  runs_by Fine h zero look fine = tt
  runs_by Fine h (suc left) look fine = λ f vs n.
      let k = h left look f vs n fine in
      q.closes n (opening program look left f vs n) _ k.0 (has_blocks (runner program tables sight left (inner program look left f vs)) (runs_by Fine h left (inner program look left f vs) k.1) left n (proc_of program f).called ((proc_of program f).body ∷ []) (fresh (proc_of program f).names vs) 1 None)

module _ (Q : Place → ℕ → Option Fault → Trace → Type 0) (R : Place → Trace → Type 0) (q : Closed Q R) (program : Tree) (tables : Tables) (sight : Accumulators) where
  opening_opens : (look : Look) (left : ℕ) (f : Name) (vs : List ℤ) (n : Place) → Every Opens (opening program look left f vs n)
  opening_opens look left f vs n = (tt, marks look (proc_of program f).memo)
    where
      marks : (look : Look) (memo : Bool) → Every Opens (mark look f vs (depth_limit - left) memo ++ Enters f vs (depth_limit - left) ∷ [])
      marks None memo = (tt, tt)
      marks (Some l) false = (tt, tt)
      marks (Some l) true = (tt, (tt, tt))

  pub good_runs : (left : ℕ) (look : Look) → GoodRuns (Every Opens) Q R q half_opens program tables sight (runner program tables sight left look)
  good_runs left look = runs_by (Every Opens) Q R q half_opens program tables sight (λ k. Unit {0}) (λ left look f vs n fine. (opening_opens look left f vs n, tt)) left look tt

  -- what is inside an instance, and an instance
  pub has_inside : (left : ℕ) (look : Look) (f : Name) (vs : List ℤ) (n : Place) → Q n 1 None (run_inside program tables sight (runner program tables sight left look) left f vs n)
  has_inside left look f vs n = has_blocks (Every Opens) Q R q half_opens program tables sight (runner program tables sight left look) (good_runs left look) left n (proc_of program f).called ((proc_of program f).body ∷ []) (fresh (proc_of program f).names vs) 1 None

  pub has_run : (left : ℕ) (look : Look) (f : Name) (vs : List ℤ) (n : Place) → R n (run program tables sight left look f vs n)
  has_run left look f vs n = q.closes n (opening program look left f vs n) _ (opening_opens look left f vs n) (has_inside left (inner program look left f vs) f vs n)
