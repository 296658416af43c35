-- The same walk under two looks: the second executes nothing, where it answers what the first executes or has answered.
use Rattle.std.proofs.Common.{ℕ, zero, suc, ◌+◌, ◌-◌, ◌<◌, ◌≤◌, List, [], ◌∷◌, ◌++◌, Option, Some, None, Result, Ok, Err, ℤ, pos, ◌≡◌, refl, sym, ap, ap₂, ◌∙◌, subst, arith, true, false, Bool, cond}
use Rattle.std.specs.Prelude.{nat_le, ◌/◌, ◌+ℤ◌}
use Rattle.std.specs.Ordering.{int_eq}
use Rattle.meaning.specs.Tree.{Name, Deed, bind, enter, read, sync, update, choose, loop, give, Body, end, step, Tree}
use Rattle.meaning.specs.declared.tree.Way.TheVariants.{Call, Spawn}
use Rattle.meaning.specs.declared.FaultKind.{FaultKind}
use Rattle.meaning.specs.declared.FaultKind.TheVariants.{TooDeep}
use Rattle.meaning.specs.Tables.{Tables}
use Rattle.meaning.specs.Outcome.{Log, Accumulators, Fault, Site, Outcome, Place, Begins, Marks, Enters, Syncs, Leaves, Spawns, Out}
use Rattle.meaning.specs.Values.{Env, put, value, values}
use Rattle.meaning.specs.Statements.{reducers, identities, beginning, Job, job_of, proc_of, fresh, update_of, bounds, turn_values}
use Rattle.meaning.specs.Elision.{elide, start, main, depth_limit}
use Rattle.meaning.specs.Records.{Key}
use Rattle.meaning.specs.Tallies.{executions}
use Rattle.meaning.specs.Trail.{Trace, led, brief, child_of, fault_at, first, env_after, doom_after, stop, after_answer, evaluated, Go, Runner, entering, on_call, after_call, after_spawn, past_sync, over, closed, Look, answers, within, mark, turns_walk, half_closed, loop_walk, half_run, halvings, deed_walk, body_walk, blocks_walk, run_inside, runner, run, trail_at}
use Rattle.trail_theory.specs.Order.{Every}
use Rattle.trail_theory.specs.ReadsAtEnd.{ReadsAtMainsEnd}
use Rattle.trail_theory.specs.Right.{IsRecorded}
use Rattle.trail_theory.specs.ElisionBeside.{first_fault, Fits, Matches}
use Rattle.trail_theory.proofs.Places.{every_append}
use Rattle.trail_theory.proofs.Evaluations.{Told, Calm, calm_value, calm_values, calm_update, calm_bounds}
use Rattle.trail_theory.proofs.Keys.{IsUnmarked, executions_append, unmarked_keys}
use Rattle.trail_theory.proofs.Unmarked.{told_unmarked, unmarked_inside}
use Rattle.trail_theory.proofs.FirstFaults.{or_else, fault_append}
use Rattle.trail_theory.proofs.Records.{recorded_other}
use Rattle.trail_theory.proofs.MainElides.{other_fits}
use Rattle.trail_theory.proofs.Beginnings.{beginning_told}

none_left : (a b : Option Fault) → or_else a b ≡ None → a ≡ None
none_left None b e = refl
none_left (Some k) b e = absurd cc

none_right : (a b : Option Fault) → or_else a b ≡ None → b ≡ None
none_right None b e = e
none_right (Some k) b e = absurd cc

every_left : {A : Type 0} (Q : A → Type 0) (a b : List A) → Every Q (a ++ b) → Every Q a
every_left Q [] b h = tt
every_left Q (x ∷ a) b h = (h.0, every_left Q a b h.1)

every_right : {A : Type 0} (Q : A → Type 0) (a b : List A) → Every Q (a ++ b) → Every Q b
every_right Q [] b h = h
every_right Q (x ∷ a) b h = every_right Q a b h.1

-- ---- an elision beside its stretch of the trail

pub answer_is : (o : Out Fault ℤ) (es : Log) (w : Outcome) → Fits o es w → o.answer ≡ w
answer_is o es (Ok v) h = ap (λ x. x.answer) h.0
answer_is o es (Err k) h = h.0

pub record Ends (o : Out Fault ℤ) : Type 0 where
  pub value : ℤ
  pub is : o.answer ≡ Ok value

ends_quietly : (o : Out Fault ℤ) (es : Log) (w : Outcome) → Fits o es w → first_fault es ≡ None → Ends o
ends_quietly o es (Ok v) h z = record { value = v; is = ap (λ x. x.answer) h.0 }
ends_quietly o es (Err k) h z = absurd (let q = sym z ∙ h.1.1 in cc)

-- Ran: what is known of an instance that the first walk executes; Found: what makes the second walk answer it
module _ (Ran Found : Key → Type 0) where
  -- without a fault, all that the first stretch executes is known, and the second executes nothing
  abbrev pub Saves : Log → Log → Type 0
  Saves es fs = first_fault es ≡ None → Every Ran (executions es) × (Every Found (executions es) → executions fs ≡ [])

  pub record Twins (r s : Trace) : Type 0 where
    pub outcomes : r.outcome ≡ s.outcome
    pub events : Saves r.events s.events

  saves_unmarked : (es fs : Log) → executions es ≡ [] → executions fs ≡ [] → Saves es fs
  saves_unmarked es fs e h = λ z. (subst (Every Ran) (sym e) tt, λ k. h)

  saves_append : (a b es fs : Log) → Saves a es → Saves b fs → Saves (a ++ b) (es ++ fs)
  saves_append a b es fs h k = λ z.
      let q = sym (fault_append a b) ∙ z in
      let x = h (none_left (first_fault a) (first_fault b) q) in
      let y = k (none_right (first_fault a) (first_fault b) q) in (
        subst (Every Ran) (sym (executions_append a b)) (every_append Ran (executions a) (executions b) x.0 y.0),
        λ t.
            let s = subst (Every Found) (executions_append a b) t in
            executions_append es fs ∙ ap₂ ◌++◌ (x.1 (every_left Found (executions a) (executions b) s)) (y.1 (every_right Found (executions a) (executions b) s)),
      )

  twins_same : (r : Trace) → executions r.events ≡ [] → Twins r r
  twins_same r e = record { outcomes = refl; events = saves_unmarked r.events r.events e e }

  twins_led : (a es : Log) (r s : Trace) → Saves a es → Twins r s → Twins (led a r) (led es s)
  twins_led a es r s h t = record { outcomes = t.outcomes; events = saves_append a r.events es s.events h t.events }

  twins_after_answer : {A : Type 0} (doom : Option Fault) (site : Site) (o : Result A FaultKind) (f g : A → Trace) → ((v : A) → Twins (f v) (g v)) → Twins (after_answer doom site o f) (after_answer doom site o g)
  twins_after_answer doom site (Ok v) f g h = h v
  twins_after_answer doom site (Err k) f g h = twins_same (stop doom (fault_at site k)) refl

  told_saves : (es : Log) → Every Told es → Saves es es
  told_saves es t = let e = sym (unmarked_keys [] es (told_unmarked es t)).executed_are in saves_unmarked es es e e

  twins_evaluated : {A : Type 0} (doom : Option Fault) (site : Site) (o : Out FaultKind A) (f g : A → Trace) → Calm o → ((v : A) → Twins (f v) (g v)) → Twins (evaluated doom site o f) (evaluated doom site o g)
  twins_evaluated doom site o f g calm h = twins_led o.log o.log (after_answer doom site o.answer f) (after_answer doom site o.answer g) (told_saves o.log calm) (twins_after_answer doom site o.answer f g h)

  twins_on_call : (doom : Option Fault) (o : Outcome) (f g : ℤ → Trace) → ((v : ℤ) → Twins (f v) (g v)) → Twins (on_call doom o f) (on_call doom o g)
  twins_on_call doom (Ok v) f g h = h v
  twins_on_call doom (Err k) f g h = twins_same (brief (Err (first doom k))) refl

  twins_call : (doom : Option Fault) (r s : Trace) (f g : ℤ → Trace) → Twins r s → ((v : ℤ) → Twins (f v) (g v)) → Twins (after_call doom r f) (after_call doom s g)
  twins_call doom r s f g t h = twins_led r.events s.events (on_call doom r.outcome f) (on_call doom s.outcome g) t.events (subst (λ o. Twins (on_call doom r.outcome f) (on_call doom o g)) t.outcomes (twins_on_call doom r.outcome f g h))

  twins_spawn : (p : Place) (r s : Trace) (f g : Outcome → Trace) → Twins r s → ((o : Outcome) → Twins (f o) (g o)) → Twins (after_spawn p r f) (after_spawn p s g)
  twins_spawn p r s f g t h = twins_led (Spawns p ∷ r.events) (Spawns p ∷ s.events) (f r.outcome) (g s.outcome) t.events (subst (λ o. Twins (f r.outcome) (g o)) t.outcomes (h r.outcome))

  twins_sync : (n : Place) (doom : Option Fault) (r s : Trace) → Twins r s → Twins (led (Syncs n ∷ []) (past_sync doom r)) (led (Syncs n ∷ []) (past_sync doom s))
  twins_sync n None r s t = record { outcomes = t.outcomes; events = t.events }
  twins_sync n (Some k) r s t = twins_same (led (Syncs n ∷ []) (brief (Err k))) refl

  twins_over : (n : Place) (doom : Option Fault) (v : ℤ) → Twins (over n doom v) (over n doom v)
  twins_over n doom v = twins_same (over n doom v) refl

  left_behind : (n : Place) (r s : Trace) → Twins r s → Saves (r.events ++ Leaves n r.outcome ∷ []) (s.events ++ Leaves n s.outcome ∷ [])
  left_behind n r s t = saves_append r.events (Leaves n r.outcome ∷ []) s.events (Leaves n s.outcome ∷ []) t.events (saves_unmarked (Leaves n r.outcome ∷ []) (Leaves n s.outcome ∷ []) refl refl)

  twins_closed : (ops : Log) (n : Place) (r s : Trace) → executions ops ≡ [] → Twins r s → Twins (closed ops n r) (closed ops n s)
  twins_closed ops n r s e t =
      record {
        outcomes = t.outcomes;
        events = saves_append ops (r.events ++ Leaves n r.outcome ∷ []) ops (s.events ++ Leaves n s.outcome ∷ []) (saves_unmarked ops ops e e) (left_behind n r s t);
      }

  twins_cond : (b : Bool) (x y z w : Trace) → Twins x z → Twins y w → Twins (cond b x y) (cond b z w)
  twins_cond true x y z w h k = h
  twins_cond false x y z w h k = k

  abbrev pub TwinRuns : Runner → Runner → Type 0
  TwinRuns None None = Unit {0}
  TwinRuns None (Some go) = ⊥
  TwinRuns (Some go) None = ⊥
  TwinRuns (Some go) (Some to) = (f : Name) (vs : List ℤ) (n : Place) → Twins (go f vs n) (to f vs n)

  twins_entering : (doom : Option Fault) (site : Site) (one two : Runner) (f g : Go → Trace) → TwinRuns one two → ((go to : Go) → ((f : Name) (vs : List ℤ) (n : Place) → Twins (go f vs n) (to f vs n)) → Twins (f go) (g to)) → Twins (entering doom site one f) (entering doom site two g)
  twins_entering doom site None None f g t h = twins_same (stop doom (fault_at site TooDeep)) refl
  twins_entering doom site None (Some to) f g t h = absurd t
  twins_entering doom site (Some go) None f g t h = absurd t
  twins_entering doom site (Some go) (Some to) f g t h = h go to t

  module _ (program : Tree) (tables : Tables) (sight : Accumulators) (one two : Runner) (same : TwinRuns one two) where
    twin_turns : (job : Job) (count i : ℕ) (n : Place) (c : ℕ) (doom : Option Fault) → Twins (turns_walk program tables sight one job count i n c doom) (turns_walk program tables sight two job count i n c doom)
    twin_turns job zero i n c doom = twins_over n doom (pos 0)
    twin_turns job (suc count) i n c doom =
        twins_evaluated doom job.site (turn_values tables job i) _ _ (calm_values tables (put job.env job.variable (job.low +ℤ pos i)) job.args) (λ vs.
        twins_entering doom job.site one two _ _ same (λ go to h. twins_call doom (go job.callee vs (child_of n c)) (to job.callee vs (child_of n c)) _ _ (h job.callee vs (child_of n c)) (λ v. twin_turns job count (suc i) n (suc c) doom)))

    module _ (left : ℕ) where
      twin_half : (n : Place) (r s : Trace) → Twins r s → Twins (half_closed program tables sight one left n r) (half_closed program tables sight two left n s)
      twin_half n r s t = twins_closed (Begins n (depth_limit - left) ∷ []) n r s refl t

      twin_loop : (k : ℕ) (job : Job) (count i : ℕ) (n : Place) (c : ℕ) (doom : Option Fault) → Twins (loop_walk program tables sight one left k job count i n c doom) (loop_walk program tables sight two left k job count i n c doom)
      twin_loop zero job count i n c doom = twin_turns job count i n c doom
      twin_loop (suc k) job count i n c doom =
          let half = λ (sub : Runner) (m i : ℕ) (p : Place). half_run program tables sight sub left k job m i p in
          let second = λ (sub : Runner) (o : Outcome). after_call (doom_after doom o) (half sub (count - count / 2) (i + count / 2) (child_of n (suc c))) (λ v. over n (doom_after doom o) (pos 0)) in
          twins_cond (nat_le count job.grain) _ _ _ _ (twin_turns job count i n c doom)
          (twins_spawn (child_of n c) (half one (count / 2) i (child_of n c)) (half two (count / 2) i (child_of n c)) (second one) (second two) (twin_half (child_of n c) _ _ (twin_loop k job (count / 2) i (child_of n c) 1 None)) (λ o.
          twins_call (doom_after doom o) (half one (count - count / 2) (i + count / 2) (child_of n (suc c))) (half two (count - count / 2) (i + count / 2) (child_of n (suc c))) _ _ (twin_half (child_of n (suc c)) _ _ (twin_loop k job (count - count / 2) (i + count / 2) (child_of n (suc c)) 1 None)) (λ v. twins_over n (doom_after doom o) (pos 0))))

      mutual
        twin_deed : (n : Place) (site : Site) (d : Deed) (env : Env) (c : ℕ) (doom : Option Fault) (k k' : Env → ℕ → Option Fault → Trace) → ((env : Env) (c : ℕ) (doom : Option Fault) → Twins (k env c doom) (k' env c doom)) → Twins (deed_walk program tables sight one left n site d env c doom k) (deed_walk program tables sight two left n site d env c doom k')
        twin_deed n site (bind x e) env c doom k k' h = twins_evaluated doom site (value tables env e) _ _ (calm_value tables env e) (λ v. h _ c doom)
        twin_deed n site (enter x Call f es) env c doom k k' h =
            twins_evaluated doom site (values tables env es) _ _ (calm_values tables env es) (λ vs. twins_entering doom site one two _ _ same (λ go to t. twins_call doom (go f vs (child_of n c)) (to f vs (child_of n c)) _ _ (t f vs (child_of n c)) (λ v. h _ (suc c) doom)))
        twin_deed n site (enter x Spawn f es) env c doom k k' h =
            twins_evaluated doom site (values tables env es) _ _ (calm_values tables env es) (λ vs. twins_entering doom site one two _ _ same (λ go to t. twins_spawn (child_of n c) (go f vs (child_of n c)) (to f vs (child_of n c)) (λ o. k (env_after env x o) (suc c) (doom_after doom o)) (λ o. k' (env_after env x o) (suc c) (doom_after doom o)) (t f vs (child_of n c)) (λ o. h _ (suc c) _)))
        twin_deed n site (read x r) env c doom k k' h = h _ c doom
        twin_deed n site sync env c doom k k' h = twins_sync n doom _ _ (h env c None)
        twin_deed n site (update r es) env c doom k k' h = twins_evaluated doom site (update_of tables (reducers program) env r es) _ _ (calm_update tables (reducers program) env r es) (λ u. h env c doom)
        twin_deed n site (choose e a b) env c doom k k' h =
            twins_evaluated doom site (value tables env e) _ _ (calm_value tables env e) (λ v. twins_cond (int_eq v (pos 0)) _ _ _ _ (twin_body n site.procedure b env c doom k k' h) (twin_body n site.procedure a env c doom k k' h))
        twin_deed n site (loop x e f grain g es) env c doom k k' h =
            twins_evaluated doom site (bounds tables env e f) _ _ (calm_bounds tables env e f) (λ range.
            let half = λ (sub : Runner). half_run program tables sight sub left halvings (job_of site env x g es grain range.0) range.1 0 (child_of n c) in
            twins_call doom (half one) (half two) _ _ (twin_half (child_of n c) _ _ (twin_loop halvings (job_of site env x g es grain range.0) range.1 0 (child_of n c) 1 None)) (λ v. h env (suc c) doom))
        twin_deed n site (give e) env c doom k k' h = twins_evaluated doom site (value tables env e) _ _ (calm_value tables env e) (λ v. twins_over n doom v)

        twin_body : (n : Place) (here : Name) (b : Body) (env : Env) (c : ℕ) (doom : Option Fault) (k k' : Env → ℕ → Option Fault → Trace) → ((env : Env) (c : ℕ) (doom : Option Fault) → Twins (k env c doom) (k' env c doom)) → Twins (body_walk program tables sight one left n here b env c doom k) (body_walk program tables sight two left n here b env c doom k')
        twin_body n here end env c doom k k' h = h env c doom
        twin_body n here (step s d b) env c doom k k' h = twin_deed n (record { procedure = here; statement = s }) d env c doom _ _ (λ env' c' doom'. twin_body n here b env' c' doom' k k' h)

      twin_blocks : (n : Place) (here : Name) (bs : List Body) (env : Env) (c : ℕ) (doom : Option Fault) → Twins (blocks_walk program tables sight one left n here bs env c doom) (blocks_walk program tables sight two left n here bs env c doom)
      twin_blocks n here [] env c doom = twins_over n doom (pos 0)
      twin_blocks n here (b ∷ bs) env c doom = twin_body n here b env c doom _ _ (λ env' c' doom'. twin_blocks n here bs env' c' doom')

  -- ---- instances, where what the first look executes or answers is answered by the second

  module _ (program : Tree) (tables : Tables) (sight : Accumulators) (ruled : ReadsAtMainsEnd program) (l m : Name → List ℤ → ℕ → Bool) where
    abbrev pub elided : ℕ → Name → List ℤ → Out Fault ℤ
    elided left f vs = elide program tables (suc left) start f vs (identities program)

    pub record AnswersAfter : Type 0 where
      pub ran : (left : ℕ) (f : Name) (vs : List ℤ) (v : ℤ) → left < depth_limit → IsRecorded program f → (elided left f vs).answer ≡ Ok v → Ran (f, vs)
      pub again : (left : ℕ) (f : Name) (vs : List ℤ) (v : ℤ) → left < depth_limit → IsRecorded program f → (elided left f vs).answer ≡ Ok v → l f vs (depth_limit - left) ≡ true → m f vs (depth_limit - left) ≡ true
      pub found : (left : ℕ) (f : Name) (vs : List ℤ) (v : ℤ) → left < depth_limit → IsRecorded program f → (elided left f vs).answer ≡ Ok v → Found (f, vs) → m f vs (depth_limit - left) ≡ true

    module _ (after : AnswersAfter) where
      abbrev inside : ℕ → Look → Name → List ℤ → Place → Trace
      inside left look f vs n = run_inside program tables sight (runner program tables sight left look) left f vs n

      -- an instance by whether it is recorded
      abbrev by_memo : (Name → List ℤ → ℕ → Bool) → ℕ → Name → List ℤ → Place → Bool → Trace
      by_memo look left f vs n b = closed (Begins n (depth_limit - left) ∷ (mark (Some look) f vs (depth_limit - left) b ++ Enters f vs (depth_limit - left) ∷ [])) n (inside left (within (Some look) (answers (Some look) f vs (depth_limit - left) b)) f vs n)

      -- a recorded one by whether it is answered
      abbrev by_answer : (Name → List ℤ → ℕ → Bool) → ℕ → Name → List ℤ → Place → Bool → Trace
      by_answer look left f vs n b = closed (Begins n (depth_limit - left) ∷ (Marks f vs b ∷ Enters f vs (depth_limit - left) ∷ [])) n (inside left (within (Some look) b) f vs n)

      silent : (look : Name → List ℤ → ℕ → Bool) (left : ℕ) (f : Name) (vs : List ℤ) (n : Place) (b : Bool) → b ≡ true → executions (by_answer look left f vs n b).events ≡ []
      silent look left f vs n false e = absurd cc
      silent look left f vs n true e =
          let w = inside left None f vs n in
          sym (unmarked_keys program (w.events ++ Leaves n w.outcome ∷ []) (every_append IsUnmarked w.events (Leaves n w.outcome ∷ []) (unmarked_inside program tables sight left f vs n) (tt, tt))).executed_are

      abbrev TwinInside : ℕ → Type 0
      TwinInside left = (f : Name) (vs : List ℤ) (n : Place) → Twins (inside left (Some l) f vs n) (inside left (Some m) f vs n)

      saves_answer : (left : ℕ) → left < depth_limit → TwinInside left → (f : Name) (vs : List ℤ) (n : Place) → IsRecorded program f → (b : Bool) → l f vs (depth_limit - left) ≡ b → (first_fault (by_answer l left f vs n b).events ≡ None → Ends (elided left f vs))
          → Saves (by_answer l left f vs n b).events (by_answer m left f vs n (m f vs (depth_limit - left))).events
      saves_answer left deep t f vs n memo true q ends = λ z.
          let e = ends z in
          (subst (Every Ran) (sym (silent l left f vs n true refl)) tt, λ k. silent m left f vs n (m f vs (depth_limit - left)) (after.again left f vs e.value deep memo e.is q))
      saves_answer left deep t f vs n memo false q ends = λ z.
          let e = ends z in
          let x = left_behind n (inside left (Some l) f vs n) (inside left (Some m) f vs n) (t f vs n) z in
          ((after.ran left f vs e.value deep memo e.is, x.0), λ k. silent m left f vs n (m f vs (depth_limit - left)) (after.found left f vs e.value deep memo e.is k.0))

      twin_by : (left : ℕ) → left < depth_limit → TwinInside left → (f : Name) (vs : List ℤ) (n : Place) (b : Bool) → (proc_of program f).memo ≡ b → Twins (by_memo l left f vs n b) (by_memo m left f vs n b)
      twin_by left deep t f vs n false memo = twins_closed (Begins n (depth_limit - left) ∷ (Enters f vs (depth_limit - left) ∷ [])) n (inside left (Some l) f vs n) (inside left (Some m) f vs n) refl (t f vs n)
      twin_by left deep t f vs n true memo =
          let other = recorded_other program tables sight (λ g ws d. None) ruled f memo in
          let o = elided left f vs in
          let matches : (look : Name → List ℤ → ℕ → Bool) → Matches o (by_memo look left f vs n true) = λ look. subst (λ b. Matches o (by_memo look left f vs n b)) memo (other_fits program tables sight ruled left (Some look) start f other vs n (identities program)) in
          let one = by_memo l left f vs n true in
          let two = by_memo m left f vs n true in
          record {
            outcomes = sym (answer_is o one.events one.outcome (matches l)) ∙ answer_is o two.events two.outcome (matches m);
            events = saves_answer left deep t f vs n memo (l f vs (depth_limit - left)) refl (ends_quietly o one.events one.outcome (matches l));
          }

      twin_runs : (left : ℕ) → left ≤ depth_limit → TwinRuns (runner program tables sight left (Some l)) (runner program tables sight left (Some m))
      unfolding runner
      twin_runs zero deep = tt
      twin_runs (suc left) deep = λ f vs n.
          twin_by left (omega (arith, deep)) (λ g ws p. twin_blocks program tables sight (runner program tables sight left (Some l)) (runner program tables sight left (Some m)) (twin_runs left (omega (arith, deep))) left p (proc_of program g).called ((proc_of program g).body ∷ []) (fresh (proc_of program g).names ws) 1 None) f vs n (proc_of program f).memo refl

      pub twin_run : (left : ℕ) → left < depth_limit → (f : Name) (vs : List ℤ) (n : Place) → Twins (run program tables sight left (Some l) f vs n) (run program tables sight left (Some m) f vs n)
      twin_run left deep f vs n =
          twin_by left deep (λ g ws p. twin_blocks program tables sight (runner program tables sight left (Some l)) (runner program tables sight left (Some m)) (twin_runs left (omega (arith, deep))) left p (proc_of program g).called ((proc_of program g).body ∷ []) (fresh (proc_of program g).names ws) 1 None) f vs n (proc_of program f).memo refl

      -- so the trails by the two
      pub twin_trail : Saves (trail_at program tables sight (Some l)) (trail_at program tables sight (Some m))
      twin_trail =
          let left = depth_limit - 1 in
          saves_append (beginning program) (run program tables sight left (Some l) main [] []).events (beginning program) (run program tables sight left (Some m) main [] []).events (told_saves (beginning program) (beginning_told program)) (twin_run left (omega arith) main [] []).events
