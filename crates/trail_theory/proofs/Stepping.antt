-- One small step keeps a task where the serial run stands.
use Rattle.std.proofs.Common.{ℕ, zero, suc, ◌+◌, ◌-◌, List, [], ◌∷◌, ◌++◌, Option, Some, None, Result, Ok, Err, ℤ, pos, ◌≡◌, refl, sym, ap, ap₂, ◌∙◌, subst, arith, append_assoc, length, map, true, false, Bool, cond, ◌&&◌}
use Rattle.std.specs.Prelude.{nat_le, ◌/◌, ◌+ℤ◌}
use Rattle.std.specs.Ordering.{int_eq}
use Rattle.meaning.specs.Tree.{Name, Term, Deed, bind, enter, read, sync, update, choose, loop, give, Body, end, step, Tree}
use Rattle.meaning.specs.declared.tree.Way.TheVariants.{Call, Spawn}
use Rattle.meaning.specs.declared.FaultKind.{FaultKind}
use Rattle.meaning.specs.declared.FaultKind.TheVariants.{TooDeep}
use Rattle.meaning.specs.Tables.{Tables, is_there}
use Rattle.meaning.specs.Outcome.{Log, Accumulators, Fault, Site, Outcome, Place, Enters, Begins, Syncs, Leaves, Marks, Spawns, Out}
use Rattle.meaning.specs.Values.{Env, put, value, values}
use Rattle.meaning.specs.Statements.{reducers, numbered, reading, put_into, Job, job_of, proc_of, fresh, update_of, bounds, turn_values}
use Rattle.meaning.specs.Records.{Kept}
use Rattle.meaning.specs.Trail.{Trace, led, child_of, fault_at, env_after, doom_after, stop, after_answer, evaluated, Go, Runner, entering as to_enter, after_call, after_spawn, past_sync, over, closed, Look, answers, within, mark, opening, inner, turns_walk, half_closed, loop_walk, half_run, halvings, body_walk, run_inside, runner, run}
use Rattle.meaning.specs.SmallStep.{seen, Start, is_entry, Frame, Todo, blocks, halves, second, turns, Child, instance, half, Phase, entering, running, spawning, returning, leaving, broken, Parent, child_name, awaiting, noting, Step, moved, taken, paused, led_step, unless, on_answer, on_value, on_depth, Lookup, look_of, memo_answer, first_todo, opened, env_of, with_layer, layer_of, enter_by, enter_step, enter_child, todo_step, micro}
use Rattle.trail_theory.specs.SerialRest.{Beside, finished_by, todo_walk, parent_walk, below}
use Rattle.meaning.specs.Layers.{SameNotes, notes_of, Notes, noted_one, noted, blank}
use Rattle.meaning.specs.Tallies.{executions}
use Rattle.trail_theory.specs.Counts.{reuses}
use Rattle.trail_theory.specs.Order.{Every}
use Rattle.trail_theory.specs.Waiting.{UsesNoWaitingName, IsOrderlyTodo}
use Rattle.trail_theory.specs.TaskFits.{EnvFits, DoomFits, sound, FrameFits, UnderFits, Higher, Spot, Fringe, Stacked, SyncInside, TaskFits}
use Rattle.trail_theory.specs.Right.{full_rest, RecordedAreSound, Sees}
use Rattle.trail_theory.proofs.Places.{IsEarly}
use Rattle.trail_theory.proofs.Keys.{executions_append, reuses_append, unmarked_keys}
use Rattle.trail_theory.proofs.Unmarked.{unmarked_inside}
use Rattle.trail_theory.proofs.KeepsStep.{Keeps}
use Rattle.trail_theory.proofs.Inside.{inside_calm}
use Rattle.trail_theory.proofs.Synced.{IsElsewhere, no_spawns, opening_elsewhere, inside_elsewhere}
use Rattle.trail_theory.proofs.Evaluations.{Calm, told_inside, calm_value, calm_values, calm_update, calm_bounds}
use Rattle.trail_theory.proofs.Places.{every_append, spot_above, child_above, above_spot, parent_spot}
use Rattle.trail_theory.proofs.Slots.{agree_of, value_free, values_free, update_free, bounds_free, turns_free, set_fits, set_into_fits, new_fits, env_passes, doom_passes, branch_orderly}
use Rattle.meaning.specs.Elision.{depth_limit}

pub noted_append : (l : Notes) (a b : Log) → noted l (a ++ b) ≡ noted (noted l a) b
noted_append l [] b = refl
noted_append l (e ∷ a) b = noted_append (noted_one l e) a b

-- two loops whose iterations have the same arguments
module _ (program : Tree) (tables : Tables) (sight : Accumulators) (sub : Runner) (left : ℕ) (site : Site) (x : ℕ) (g : Name) (es : List Term) (grain : ℕ) (low : ℤ) (a b : Env) (same_args : (i : ℕ) → turn_values tables (job_of site a x g es grain low) i ≡ turn_values tables (job_of site b x g es grain low) i) where
  turns_same : (count i : ℕ) (n : Place) (c : ℕ) (doom : Option Fault) → turns_walk program tables sight sub (job_of site a x g es grain low) count i n c doom ≡ turns_walk program tables sight sub (job_of site b x g es grain low) count i n c doom
  turns_same zero i n c doom = refl
  turns_same (suc count) i n c doom = rw (same_args i) (λ p. evaluated doom site (turn_values tables (job_of site b x g es grain low) i) (λ vs. to_enter doom site sub (λ go. after_call doom (go g vs (child_of n c)) (λ v. turns_same count (suc i) n (suc c) doom p))))

  loop_same : (k count i : ℕ) (n : Place) (c : ℕ) (doom : Option Fault) → loop_walk program tables sight sub left k (job_of site a x g es grain low) count i n c doom ≡ loop_walk program tables sight sub left k (job_of site b x g es grain low) count i n c doom
  loop_same zero count i n c doom = turns_same count i n c doom
  loop_same (suc k) count i n c doom = rw (turns_same count i n c doom, loop_same k (count / 2) i (child_of n c) 1 None, loop_same k (count - count / 2) (i + count / 2) (child_of n (suc c)) 1 None) refl

module _ (program : Tree) (tables : Tables) (sight : Accumulators) (lookup : Lookup) (checked : UsesNoWaitingName program) (is_sound : RecordedAreSound program tables sight lookup) (kit : Bool) (acc : Accumulators) (B : Log) (m : Start) (early : IsEarly m B) where
  abbrev L : Look
  L = look_of lookup

  abbrev K : Log → Step → Type 0
  K was s = Keeps program tables sight lookup B m was s

  abbrev go_on : Place → Trace → List Parent → List Beside → Log
  go_on n r t gs = (finished_by program tables sight L n r (below program tables sight L t gs)).events

  unless_kept : (was : Log) (b : Bool) (s : Step) → (b ≡ false → K was s) → K was (unless b s)
  unless_kept was true s h = tt
  unless_kept was false s h = h refl

  -- events before a step
  led_kept : (was was' es : Log) (s : Step) → Every (SyncInside m) es → was' ≡ es ++ was → K was s → K was' (led_step es s)
  led_kept was was' es (moved l evs fr ph t) i e k =
      record { top = k.top; others = k.others; task = k.task; goes_on = e ∙ ap (λ w. es ++ w) k.goes_on ∙ sym (append_assoc es evs _); inside = every_append (SyncInside m) es evs i k.inside }
  led_kept was was' es (taken evs r fr ph t) i e k =
      let q = k.kept in
      record {
        events = k.events;
        kept = record { top = q.top; others = q.others; task = q.task; goes_on = e ∙ ap (λ w. es ++ w) q.goes_on ∙ sym (append_assoc es (evs ++ k.events) _) ∙ ap (λ w. w ++ full_rest program tables sight lookup fr ph t q.top q.others) (sym (append_assoc es evs k.events)); inside = rw (append_assoc es evs k.events) (every_append (SyncInside m) es (evs ++ k.events) i q.inside) };
        noted = k.noted;
        unexecuted = k.unexecuted;
        answered = k.answered;
        elsewhere = k.elsewhere;
      }
  led_kept was was' es (paused p) i e k = tt

  -- a fault of a statement
  broken_kept : (fr : Frame) (k : Fault) (todo : Todo) (t : List Parent) (g : Beside) (gs : List Beside) → TaskFits program B m fr (running todo) t g gs → K (go_on fr.instance (stop g.doom k) t gs) (moved noting [] fr (broken k) t)
  broken_kept fr k todo t g gs h =
      record {
        top = g;
        others = gs;
        task = record { frame_fits = record { waiting = h.frame_fits.waiting; orderly = tt; slots = h.frame_fits.slots; doomed = h.frame_fits.doomed }; under_fits = h.under_fits; fringe = tt; stacked = h.stacked };
        goes_on = refl;
        inside = tt;
      }

  kept_after_answer : {A : Type 0} (fr : Frame) (todo : Todo) (t : List Parent) (g : Beside) (gs : List Beside) → TaskFits program B m fr (running todo) t g gs → (site : Site) (r : Result A FaultKind) (next : A → Trace) (st : A → Step)
      → ((a : A) → K (go_on fr.instance (next a) t gs) (st a)) → K (go_on fr.instance (after_answer g.doom site r next) t gs) (on_answer fr t site r st)
  kept_after_answer fr todo t g gs h site (Ok a) next st k = k a
  kept_after_answer fr todo t g gs h site (Err f) next st k = broken_kept fr (fault_at site f) todo t g gs h

  value_kept : {A : Type 0} (fr : Frame) (todo : Todo) (t : List Parent) (g : Beside) (gs : List Beside) → TaskFits program B m fr (running todo) t g gs → (site : Site) (o : Out FaultKind A) (next : A → Trace) (st : A → Step)
      → Calm o → ((a : A) → K (go_on fr.instance (next a) t gs) (st a)) → K (go_on fr.instance (evaluated g.doom site o next) t gs) (on_value fr t site o st)
  value_kept fr todo t g gs h site o next st c k =
      let r = after_answer g.doom site o.answer next in
      led_kept (go_on fr.instance r t gs) (go_on fr.instance (evaluated g.doom site o next) t gs) o.log (on_answer fr t site o.answer st) (told_inside m o.log c) (simp append_assoc) (kept_after_answer fr todo t g gs h site o.answer next st k)

  depth_kept : (fr : Frame) (todo : Todo) (t : List Parent) (g : Beside) (gs : List Beside) → TaskFits program B m fr (running todo) t g gs → (site : Site) (e : ℕ) (next : Go → Trace) (st : ℕ → Step)
      → ((d : ℕ) → K (go_on fr.instance (next (run program tables sight d L)) t gs) (st d)) → K (go_on fr.instance (to_enter g.doom site (runner program tables sight e L) next) t gs) (on_depth fr t site e st)
  unfolding runner
  depth_kept fr todo t g gs h site zero next st k = broken_kept fr (fault_at site TooDeep) todo t g gs h
  depth_kept fr todo t g gs h site (suc d) next st k = k d

  -- ---- entering

  beside_new : Child → Beside
  beside_new child = record { env = env_of program child; doom = None }

  abbrev rest_of : Frame → Phase → List Parent → Beside → List Beside → Log
  rest_of fr ph t g gs = full_rest program tables sight lookup fr ph t g gs

  abbrev inside_of : Look → ℕ → Name → List ℤ → Place → Trace
  inside_of k left f vs n = run_inside program tables sight (runner program tables sight left k) left f vs n

  abbrev ends_by : Log → Log → Place → List Parent → List Beside → Outcome → Log
  ends_by ops es n t gs o = ((ops ++ es) ++ Leaves n o ∷ []) ++ (below program tables sight L t gs o).events

  calm_opening : (left : ℕ) (f : Name) (vs : List ℤ) (n : Place) → Every (SyncInside m) (opening program L left f vs n)
  calm_opening left f vs n = (tt, calm_mark (proc_of program f).memo)
    where
      calm_mark : (memo : Bool) → Every (SyncInside m) (mark L f vs (depth_limit - left) memo ++ Enters f vs (depth_limit - left) ∷ [])
      calm_mark false = (tt, tt)
      calm_mark true = (tt, (tt, tt))

  -- an instance that no record answers
  enter_none : (left : ℕ) (f : Name) (vs : List ℤ) (n : Place) (t : List Parent) (gs : List Beside) (g : Beside) → UnderFits program B t gs → Higher m n → Stacked n t → (b : Bool)
      → inner program L left f vs ≡ L → K (rest_of (opened program left (instance f vs) n) (entering (instance f vs)) t g gs) (moved (layer_of program tables lookup kit acc b) (opening program L left f vs n) (with_layer b (opened program left (instance f vs) n)) (running (first_todo program (instance f vs))) t)
  enter_none left f vs n t gs g under high stacked b e =
      let whole = λ (k : Look). ends_by (opening program L left f vs n) (inside_of k left f vs n).events n t gs (inside_of k left f vs n).outcome in
      record {
        top = record { env = fresh (proc_of program f).names vs; doom = None };
        others = gs;
        task = record {
          frame_fits = record { waiting = []; orderly = (checked f, tt); slots = new_fits B n [] 0 (fresh (proc_of program f).names vs); doomed = sound };
          under_fits = under;
          fringe = above_spot m n 1 high;
          stacked = stacked;
        };
        goes_on = ap whole e ∙ simp append_assoc;
        inside = calm_opening left f vs n;
      }

  -- an instance without a fault above the entry stands above the entry
  run_calm : (k : Look) (left : ℕ) (f : Name) (vs : List ℤ) (n : Place) (v : ℤ) → Higher m n → (inside_of k left f vs n).outcome ≡ Ok v → Every (SyncInside m) (inside_of k left f vs n).events
  run_calm k left f vs n v h e = inside_calm program tables sight m k left f vs n h v e

  notes_marked : (l : Notes) (f : Name) (vs : List ℤ) (n : Place) (d : ℕ) (es : Log) (memo : Bool) → noted l (Begins n d ∷ ((mark L f vs d memo ++ Enters f vs d ∷ []) ++ es)) ≡ noted l (Begins n d ∷ Enters f vs d ∷ es)
  notes_marked l f vs n d es false = refl
  notes_marked l f vs n d es true = refl

  -- its entering is marked as answered
  opening_answered : (f : Name) (vs : List ℤ) (n : Place) (d : ℕ) (memo : Bool) (k : Kept) → memo ≡ true → lookup f vs d ≡ Some k → (executions (Begins n d ∷ (mark L f vs d memo ++ Enters f vs d ∷ [])) ≡ []) × (reuses (Begins n d ∷ (mark L f vs d memo ++ Enters f vs d ∷ [])) ≡ (f, vs) ∷ [])
  opening_answered f vs n d false k q e = absurd cc
  opening_answered f vs n d true k q e = (ap (λ o. executions (Begins n d ∷ (Marks f vs (is_there o) ∷ Enters f vs d ∷ []))) e, ap (λ o. reuses (Begins n d ∷ (Marks f vs (is_there o) ∷ Enters f vs d ∷ []))) e)

  -- an instance that a record answers
  enter_some : (left : ℕ) (f : Name) (vs : List ℤ) (n : Place) (t : List Parent) (gs : List Beside) (g : Beside) → UnderFits program B t gs → Higher m n → Stacked n t → (k : Kept) → (proc_of program f).memo ≡ true → lookup f vs (depth_limit - left) ≡ Some k
      → inner program L left f vs ≡ None → K (rest_of (opened program left (instance f vs) n) (entering (instance f vs)) t g gs) (taken [] k (opened program left (instance f vs) n) (leaving k.value) t)
  enter_some left f vs n t gs g under high stacked k memo found e =
      let ops = opening program L left f vs n in
      let r = inside_of None left f vs n in
      let q : r.outcome ≡ Ok k.value = is_sound.runs f vs left n k memo found in
      let inside = unmarked_keys program r.events (unmarked_inside program tables sight left f vs n) in
      let whole = λ (k : Look). ends_by ops (inside_of k left f vs n).events n t gs (inside_of k left f vs n).outcome in
      record {
        events = ops ++ r.events;
        kept = record {
          top = record { env = fresh (proc_of program f).names vs; doom = None };
          others = gs;
          task = record {
            frame_fits = record { waiting = []; orderly = tt; slots = new_fits B n [] 0 (fresh (proc_of program f).names vs); doomed = sound };
            under_fits = under;
            fringe = high;
            stacked = stacked;
          };
          goes_on = ap whole e ∙ ap (ends_by ops r.events n t gs) q ∙ append_assoc (ops ++ r.events) (Leaves n (Ok k.value) ∷ []) (below program tables sight L t gs (Ok k.value)).events;
          inside = every_append (SyncInside m) ops r.events (calm_opening left f vs n) (run_calm None left f vs n k.value high q);
        };
        noted = subst (λ w. SameNotes w (notes_of k (depth_limit - left))) (sym (notes_marked (blank program) f vs n (depth_limit - left) r.events (proc_of program f).memo ∙ sym (noted_append (noted (blank program) (Begins n (depth_limit - left) ∷ Enters f vs (depth_limit - left) ∷ [])) r.events (Leaves n r.outcome ∷ [])))) (is_sound.notes_are f vs left n k memo found);
        unexecuted = executions_append ops r.events ∙ ap₂ ◌++◌ (opening_answered f vs n (depth_limit - left) (proc_of program f).memo k memo found).0 (sym inside.executed_are);
        answered = ap length (reuses_append ops r.events ∙ ap₂ ◌++◌ (opening_answered f vs n (depth_limit - left) (proc_of program f).memo k memo found).1 (sym inside.reused_are));
        elsewhere = λ m. no_spawns (ops ++ r.events) (every_append IsElsewhere ops r.events (opening_elsewhere program L left f vs n) (inside_elsewhere program tables sight left None f vs n m));
      }

  enter_case : (left : ℕ) (f : Name) (vs : List ℤ) (n : Place) (t : List Parent) (gs : List Beside) (g : Beside) → UnderFits program B t gs → Higher m n → Stacked n t → (memo : Bool) → (proc_of program f).memo ≡ memo → (ans : Option Kept) → lookup f vs (depth_limit - left) ≡ ans
      → K (rest_of (opened program left (instance f vs) n) (entering (instance f vs)) t g gs) (enter_by program tables lookup kit acc (memo_answer lookup memo f vs (depth_limit - left)) (opened program left (instance f vs) n) f vs t)
  enter_case left f vs n t gs g under high stacked false q ans p =
      enter_none left f vs n t gs g under high stacked ((proc_of program f).memo && kit) (ap (λ b. within L (answers L f vs (depth_limit - left) b)) q)
  enter_case left f vs n t gs g under high stacked true q None p =
      subst (λ o. K (rest_of (opened program left (instance f vs) n) (entering (instance f vs)) t g gs) (enter_by program tables lookup kit acc o (opened program left (instance f vs) n) f vs t)) (sym p)
      (enter_none left f vs n t gs g under high stacked ((proc_of program f).memo && kit) (ap (λ b. within L (answers L f vs (depth_limit - left) b)) q ∙ ap (λ o. within L (is_there o)) p))
  enter_case left f vs n t gs g under high stacked true q (Some k) p =
      subst (λ o. K (rest_of (opened program left (instance f vs) n) (entering (instance f vs)) t g gs) (enter_by program tables lookup kit acc o (opened program left (instance f vs) n) f vs t)) (sym p)
      (enter_some left f vs n t gs g under high stacked k q p (ap (λ b. within L (answers L f vs (depth_limit - left) b)) q ∙ ap (λ o. within L (is_there o)) p))

  enter_kept : (left : ℕ) (child : Child) (n : Place) (t : List Parent) (gs : List Beside) (g : Beside) → UnderFits program B t gs → Higher m n → Stacked n t
      → K (rest_of (opened program left child n) (entering child) t g gs) (enter_step program tables lookup kit acc (opened program left child n) child t)
  enter_kept left (instance f vs) n t gs g under high stacked = enter_case left f vs n t gs g under high stacked (proc_of program f).memo refl (lookup f vs (depth_limit - left)) refl
  enter_kept left (half k job count i) n t gs g under high stacked =
      record {
        top = record { env = []; doom = None };
        others = gs;
        task = record { frame_fits = record { waiting = []; orderly = tt; slots = tt; doomed = sound }; under_fits = under; fringe = above_spot m n 1 high; stacked = stacked };
        goes_on = refl;
        inside = (tt, tt);
      }

  -- a child that is put on the stack and entered
  child_kept : (was : Log) (fr : Frame) (d : ℕ) (spawned : Bool) (x : Option ℕ) (child : Child) (todo : Todo) (t : List Parent) (g : Beside) (gs : List Beside) (W : List ℕ)
      → IsOrderlyTodo W todo → EnvFits B fr.instance W 0 fr.env g.env → DoomFits B fr.instance g.doom → UnderFits program B t gs → Spot m fr.instance fr.next → Stacked fr.instance t
      → was ≡ rest_of (opened program d child (child_name fr)) (entering child) (awaiting fr spawned x todo ∷ t) (beside_new child) (g ∷ gs)
      → K was (enter_child program tables lookup kit acc fr d spawned x child todo t)
  child_kept was fr d spawned x child todo t g gs W orderly slots doomed under spot stacked e =
      rw e (enter_kept d child (child_name fr) (awaiting fr spawned x todo ∷ t) (g ∷ gs) (beside_new child)
      (record { waiting = W; orderly = orderly; slots = slots; doomed = doomed }, under) (child_above m fr.instance fr.next spot) (record { number = fr.next; is = refl; counted = omega arith }, stacked))

  -- a called child, and then the rest
  call_goes : (fr : Frame) (x : Option ℕ) (todo : Todo) (t : List Parent) (g : Beside) (gs : List Beside) (n : Place) (opening_events es : Log) (o : Outcome)
      → go_on fr.instance (after_call g.doom (closed opening_events n (record { events = es; outcome = o })) (λ v. todo_walk program tables sight L fr todo (put_into x g.env v) (suc fr.next) g.doom)) t gs
      ≡ (opening_events ++ es) ++ Leaves n o ∷ (below program tables sight L (awaiting fr false x todo ∷ t) (g ∷ gs) o).events
  call_goes fr x todo t g gs n ops es (Ok v) = simp append_assoc
  call_goes fr x todo t g gs n ops es (Err k) = simp append_assoc

  -- these events are those of the stack on which the child stands
  call_kept : (fr : Frame) (d : ℕ) (x : Option ℕ) (f : Name) (vs : List ℤ) (todo : Todo) (t : List Parent) (g : Beside) (gs : List Beside) (W : List ℕ)
      → IsOrderlyTodo W todo → EnvFits B fr.instance W 0 fr.env g.env → DoomFits B fr.instance g.doom → UnderFits program B t gs → Spot m fr.instance fr.next → Stacked fr.instance t
      → K (go_on fr.instance (after_call g.doom (run program tables sight d L f vs (child_name fr)) (λ v. todo_walk program tables sight L fr todo (put_into x g.env v) (suc fr.next) g.doom)) t gs) (enter_child program tables lookup kit acc fr d false x (instance f vs) todo t)
  call_kept fr d x f vs todo t g gs W orderly slots doomed under spot stacked =
      let n = child_name fr in
      let r = inside_of (inner program L d f vs) d f vs n in
      child_kept _ fr d false x (instance f vs) todo t g gs W orderly slots doomed under spot stacked
      (call_goes fr x todo t g gs n (opening program L d f vs n) r.events r.outcome ∙ sym (append_assoc (opening program L d f vs n ++ r.events) (Leaves n r.outcome ∷ []) _))

  loop_kept : (fr : Frame) (k : ℕ) (job : Job) (count i : ℕ) (todo : Todo) (t : List Parent) (g : Beside) (gs : List Beside) (W : List ℕ)
      → IsOrderlyTodo W todo → EnvFits B fr.instance W 0 fr.env g.env → DoomFits B fr.instance g.doom → UnderFits program B t gs → Spot m fr.instance fr.next → Stacked fr.instance t
      → K (go_on fr.instance (after_call g.doom (half_run program tables sight (runner program tables sight fr.left L) fr.left k job count i (child_name fr)) (λ v. todo_walk program tables sight L fr todo g.env (suc fr.next) g.doom)) t gs) (enter_child program tables lookup kit acc fr fr.left false None (half k job count i) todo t)
  loop_kept fr k job count i todo t g gs W orderly slots doomed under spot stacked =
      let n = child_name fr in
      let r = loop_walk program tables sight (runner program tables sight fr.left L) fr.left k job count i n 1 None in
      child_kept _ fr fr.left false None (half k job count i) todo t g gs W orderly slots doomed under spot stacked
      (call_goes fr None todo t g gs n (Begins n (depth_limit - fr.left) ∷ []) r.events r.outcome ∙ sym (append_assoc (Begins n (depth_limit - fr.left) ∷ r.events) (Leaves n r.outcome ∷ []) _))

  -- ---- statements

  eval_kept : {A : Type 0} (fr : Frame) (todo : Todo) (t : List Parent) (g : Beside) (gs : List Beside) → TaskFits program B m fr (running todo) t g gs → (site : Site) (o o' : Out FaultKind A) → o ≡ o' → (next : A → Trace) (st : A → Step)
      → Calm o → ((a : A) → K (go_on fr.instance (next a) t gs) (st a)) → K (go_on fr.instance (evaluated g.doom site o' next) t gs) (on_value fr t site o st)
  eval_kept fr todo t g gs h site o o' e next st c k =
      subst (λ q. K (go_on fr.instance (evaluated g.doom site q next) t gs) (on_value fr t site o st)) e (value_kept fr todo t g gs h site o next st c k)

  -- a step in the same instance
  on_kept : (was : Log) (fr : Frame) (t : List Parent) (g : Beside) (gs : List Beside) → UnderFits program B t gs → Stacked fr.instance t → (ph : Phase) → FrameFits program B fr ph g → Fringe m fr.instance fr.next ph → was ≡ rest_of fr ph t g gs → K was (moved noting [] fr ph t)
  on_kept was fr t g gs under stacked ph f fringe e = record { top = g; others = gs; task = record { frame_fits = f; under_fits = under; fringe = fringe; stacked = stacked }; goes_on = e; inside = tt }

  choose_walk : (sub : Runner) (left : ℕ) (n : Place) (here : Name) (b : Bool) (x y : Body) (env : Env) (c : ℕ) (doom : Option Fault) (k : Env → ℕ → Option Fault → Trace)
      → cond b (body_walk program tables sight sub left n here x env c doom k) (body_walk program tables sight sub left n here y env c doom k) ≡ body_walk program tables sight sub left n here (cond b x y) env c doom k
  choose_walk sub left n here true x y env c doom k = refl
  choose_walk sub left n here false x y env c doom k = refl

  -- the spawned child, and then the rest
  spawn_goes : (n : Place) (ops es : Log) (o : Outcome) (next : Outcome → Trace) → after_spawn n (closed ops n (record { events = es; outcome = o })) next ≡ led (Spawns n ∷ []) (finished_by program tables sight L n (led ops (record { events = es; outcome = o })) next)
  spawn_goes n ops es o next = ap (λ l. record { events = Spawns n ∷ (l ++ (next o).events); outcome = (next o).outcome }) (sym (append_assoc ops es (Leaves n o ∷ [])))

  deed_kept : (fr : Frame) (s : ℕ) (d : Deed) (b : Body) (bs : List Body) (t : List Parent) (g : Beside) (gs : List Beside) → TaskFits program B m fr (running (blocks (step s d b ∷ bs))) t g gs → Sees acc sight (running (blocks (step s d b ∷ bs)))
      → K (rest_of fr (running (blocks (step s d b ∷ bs))) t g gs) (todo_step program tables lookup kit acc m fr (blocks (step s d b ∷ bs)) t)
  deed_kept fr s (bind x e) b bs t g gs h sees =
      let f = h.frame_fits in
      eval_kept fr (blocks (step s (bind x e) b ∷ bs)) t g gs h (record { procedure = fr.here; statement = s }) (value tables (map seen fr.env) e) (value tables g.env e)
      (value_free tables f.waiting (map seen fr.env) g.env (agree_of B fr.instance f.waiting fr.env g.env f.slots) e f.orderly.0.0) _ _ (calm_value tables (map seen fr.env) e) (λ v. record {
        top = record { env = put g.env x v; doom = g.doom };
        others = gs;
        task = record { frame_fits = record { waiting = f.waiting; orderly = (f.orderly.0.1, f.orderly.1); slots = set_fits B fr.instance f.waiting v 0 fr.env g.env x f.slots; doomed = f.doomed }; under_fits = h.under_fits; fringe = h.fringe; stacked = h.stacked };
        goes_on = refl;
        inside = tt;
      })
  deed_kept fr s (enter x Call f' es) b bs t g gs h sees =
      let f = h.frame_fits in
      let todo = blocks (step s (enter x Call f' es) b ∷ bs) in
      let site : Site = record { procedure = fr.here; statement = s } in
      eval_kept fr todo t g gs h site (values tables (map seen fr.env) es) (values tables g.env es)
      (values_free tables f.waiting (map seen fr.env) g.env (agree_of B fr.instance f.waiting fr.env g.env f.slots) es f.orderly.0.0) _ _ (calm_values tables (map seen fr.env) es) (λ vs.
      depth_kept fr todo t g gs h site fr.left _ _ (λ d.
      call_kept fr d x f' vs (blocks (b ∷ bs)) t g gs f.waiting (f.orderly.0.1, f.orderly.1) f.slots f.doomed h.under_fits h.fringe h.stacked))
  deed_kept fr s (enter x Spawn f' es) b bs t g gs h sees =
      let f = h.frame_fits in
      let todo = blocks (step s (enter x Spawn f' es) b ∷ bs) in
      let site : Site = record { procedure = fr.here; statement = s } in
      let n = child_name fr in
      eval_kept fr todo t g gs h site (values tables (map seen fr.env) es) (values tables g.env es)
      (values_free tables f.waiting (map seen fr.env) g.env (agree_of B fr.instance f.waiting fr.env g.env f.slots) es f.orderly.0.0) _ _ (calm_values tables (map seen fr.env) es) (λ vs.
      depth_kept fr todo t g gs h site fr.left _ _ (λ d.
      let r = inside_of (inner program L d f' vs) d f' vs n in
      on_kept _ fr t g gs h.under_fits h.stacked (spawning d x (instance f' vs) (blocks (b ∷ bs))) (record { waiting = f.waiting; orderly = (f.orderly.0.1, f.orderly.1); slots = f.slots; doomed = f.doomed }) h.fringe
      (ap (λ w. go_on fr.instance w t gs) (spawn_goes n (opening program L d f' vs n) r.events r.outcome (λ o. todo_walk program tables sight L fr (blocks (b ∷ bs)) (env_after g.env x o) (suc fr.next) (doom_after g.doom o))))))
  deed_kept fr s (read x r) b bs t g gs h sees =
      let f = h.frame_fits in
      let v = reading acc (numbered 0 (reducers program) r) in
      record {
        top = record { env = put g.env x v; doom = g.doom };
        others = gs;
        task = record { frame_fits = record { waiting = f.waiting; orderly = (f.orderly.0.1, f.orderly.1); slots = set_fits B fr.instance f.waiting v 0 fr.env g.env x f.slots; doomed = f.doomed }; under_fits = h.under_fits; fringe = h.fringe; stacked = h.stacked };
        goes_on = ap (λ a. go_on fr.instance (todo_walk program tables sight L fr (blocks (b ∷ bs)) (put g.env x (reading a (numbered 0 (reducers program) r))) fr.next g.doom) t gs) (sym sees);
        inside = tt;
      }
  deed_kept fr s sync b bs t g gs h sees =
      unless_kept _ (is_entry m fr.instance) _ (λ e.
      let f = h.frame_fits in
      let above = spot_above m fr.instance fr.next h.fringe e in
      let q = doom_passes m fr.instance B early above g.doom f.doomed in
      record {
        top = record { env = g.env; doom = None };
        others = gs;
        task = record { frame_fits = record { waiting = []; orderly = (f.orderly.0.1, f.orderly.1); slots = env_passes m fr.instance f.waiting B early above 0 fr.env g.env f.slots; doomed = sound }; under_fits = h.under_fits; fringe = h.fringe; stacked = h.stacked };
        goes_on = ap (λ d. go_on fr.instance (led (Syncs fr.instance ∷ []) (past_sync d (todo_walk program tables sight L fr (blocks (b ∷ bs)) g.env fr.next None))) t gs) q;
        inside = (above, tt);
      })
  deed_kept fr s (update r es) b bs t g gs h sees =
      let f = h.frame_fits in
      eval_kept fr (blocks (step s (update r es) b ∷ bs)) t g gs h (record { procedure = fr.here; statement = s }) (update_of tables (reducers program) (map seen fr.env) r es) (update_of tables (reducers program) g.env r es)
      (update_free tables f.waiting (map seen fr.env) g.env (agree_of B fr.instance f.waiting fr.env g.env f.slots) (reducers program) r es f.orderly.0.0) _ _ (calm_update tables (reducers program) (map seen fr.env) r es) (λ u.
      on_kept _ fr t g gs h.under_fits h.stacked (running (blocks (b ∷ bs))) (record { waiting = f.waiting; orderly = (f.orderly.0.1, f.orderly.1); slots = f.slots; doomed = f.doomed }) h.fringe refl)
  deed_kept fr s (choose e x y) b bs t g gs h sees =
      let f = h.frame_fits in
      eval_kept fr (blocks (step s (choose e x y) b ∷ bs)) t g gs h (record { procedure = fr.here; statement = s }) (value tables (map seen fr.env) e) (value tables g.env e)
      (value_free tables f.waiting (map seen fr.env) g.env (agree_of B fr.instance f.waiting fr.env g.env f.slots) e f.orderly.0.0.0) _ _ (calm_value tables (map seen fr.env) e) (λ v.
      on_kept _ fr t g gs h.under_fits h.stacked (running (blocks (cond (int_eq v (pos 0)) y x ∷ b ∷ bs)))
      (record { waiting = f.waiting; orderly = branch_orderly f.waiting (int_eq v (pos 0)) x y (b ∷ bs) f.orderly.0.0.1.0 f.orderly.0.0.1.1 (f.orderly.0.1, f.orderly.1); slots = f.slots; doomed = f.doomed }) h.fringe
      (ap (λ w. go_on fr.instance w t gs) (choose_walk (runner program tables sight fr.left L) fr.left fr.instance fr.here (int_eq v (pos 0)) y x g.env fr.next g.doom _)))
  deed_kept fr s (loop x e e' grain f' es) b bs t g gs h sees =
      let f = h.frame_fits in
      let site : Site = record { procedure = fr.here; statement = s } in
      eval_kept fr (blocks (step s (loop x e e' grain f' es) b ∷ bs)) t g gs h site (bounds tables (map seen fr.env) e e') (bounds tables g.env e e')
      (bounds_free tables f.waiting (map seen fr.env) g.env (agree_of B fr.instance f.waiting fr.env g.env f.slots) e e' f.orderly.0.0.0 f.orderly.0.0.1.0) _ _ (calm_bounds tables (map seen fr.env) e e') (λ range.
      subst (λ w. K (go_on fr.instance (after_call g.doom (half_closed program tables sight (runner program tables sight fr.left L) fr.left (child_name fr) w) (λ v. todo_walk program tables sight L fr (blocks (b ∷ bs)) g.env (suc fr.next) g.doom)) t gs)
      (enter_child program tables lookup kit acc fr fr.left false None (half halvings (job_of site (map seen fr.env) x f' es grain range.0) range.1 0) (blocks (b ∷ bs)) t))
      (loop_same program tables sight (runner program tables sight fr.left L) fr.left site x f' es grain range.0 (map seen fr.env) g.env (turns_free tables B fr.instance f.waiting fr.env g.env f.slots site x f' es grain range.0 f.orderly.0.0.1.1) halvings range.1 0 (child_name fr) 1 None)
      (loop_kept fr halvings (job_of site (map seen fr.env) x f' es grain range.0) range.1 0 (blocks (b ∷ bs)) t g gs f.waiting (f.orderly.0.1, f.orderly.1) f.slots f.doomed h.under_fits h.fringe h.stacked))
  deed_kept fr s (give e) b bs t g gs h sees =
      let f = h.frame_fits in
      eval_kept fr (blocks (step s (give e) b ∷ bs)) t g gs h (record { procedure = fr.here; statement = s }) (value tables (map seen fr.env) e) (value tables g.env e)
      (value_free tables f.waiting (map seen fr.env) g.env (agree_of B fr.instance f.waiting fr.env g.env f.slots) e f.orderly.0.0) _ _ (calm_value tables (map seen fr.env) e) (λ v.
      on_kept _ fr t g gs h.under_fits h.stacked (returning v) (record { waiting = f.waiting; orderly = tt; slots = f.slots; doomed = f.doomed }) h.fringe refl)

  cond_kept : (n : Place) (t : List Parent) (gs : List Beside) (b : Bool) (q r : Trace) (x y : Step) → K (go_on n q t gs) x → K (go_on n r t gs) y → K (go_on n (cond b q r) t gs) (cond b x y)
  cond_kept n t gs true q r x y h k = h
  cond_kept n t gs false q r x y h k = k

  todo_kept : (fr : Frame) (todo : Todo) (t : List Parent) (g : Beside) (gs : List Beside) → TaskFits program B m fr (running todo) t g gs → Sees acc sight (running todo)
      → K (rest_of fr (running todo) t g gs) (todo_step program tables lookup kit acc m fr todo t)
  todo_kept fr (blocks []) t g gs h sees =
      on_kept _ fr t g gs h.under_fits h.stacked (returning (pos 0)) (record { waiting = h.frame_fits.waiting; orderly = tt; slots = h.frame_fits.slots; doomed = h.frame_fits.doomed }) h.fringe refl
  todo_kept fr (blocks (end ∷ bs)) t g gs h sees =
      on_kept _ fr t g gs h.under_fits h.stacked (running (blocks bs)) (record { waiting = h.frame_fits.waiting; orderly = h.frame_fits.orderly.1; slots = h.frame_fits.slots; doomed = h.frame_fits.doomed }) h.fringe refl
  todo_kept fr (blocks (step s d b ∷ bs)) t g gs h sees = deed_kept fr s d b bs t g gs h sees
  todo_kept fr (halves zero job count i) t g gs h sees =
      on_kept _ fr t g gs h.under_fits h.stacked (running (turns job count i)) (record { waiting = h.frame_fits.waiting; orderly = tt; slots = h.frame_fits.slots; doomed = h.frame_fits.doomed }) h.fringe refl
  todo_kept fr (halves (suc k) job count i) t g gs h sees =
      let f = h.frame_fits in
      cond_kept fr.instance t gs (nat_le count job.grain) _ _ _ _
      (on_kept _ fr t g gs h.under_fits h.stacked (running (turns job count i)) (record { waiting = f.waiting; orderly = tt; slots = f.slots; doomed = f.doomed }) h.fringe refl)
      (on_kept _ fr t g gs h.under_fits h.stacked (spawning fr.left None (half k job (count / 2) i) (second k job (count - count / 2) (i + count / 2))) (record { waiting = f.waiting; orderly = tt; slots = f.slots; doomed = f.doomed }) h.fringe refl)
  todo_kept fr (second k job count i) t g gs h sees =
      let f = h.frame_fits in
      loop_kept fr k job count i (blocks []) t g gs f.waiting tt f.slots f.doomed h.under_fits h.fringe h.stacked
  todo_kept fr (turns job zero i) t g gs h sees =
      on_kept _ fr t g gs h.under_fits h.stacked (returning (pos 0)) (record { waiting = h.frame_fits.waiting; orderly = tt; slots = h.frame_fits.slots; doomed = h.frame_fits.doomed }) h.fringe refl
  todo_kept fr (turns job (suc count) i) t g gs h sees =
      let f = h.frame_fits in
      eval_kept fr (turns job (suc count) i) t g gs h job.site (turn_values tables job i) (turn_values tables job i) refl _ _ (calm_values tables (put job.env job.variable (job.low +ℤ pos i)) job.args) (λ vs.
      depth_kept fr (turns job (suc count) i) t g gs h job.site fr.left _ _ (λ d.
      call_kept fr d None job.callee vs (turns job count (suc i)) t g gs f.waiting tt f.slots f.doomed h.under_fits h.fringe h.stacked))

  parent_gave : (p : Parent) (b : Bool) (g : Beside) (v : ℤ) → parent_walk program tables sight L p b g (Ok v) ≡ todo_walk program tables sight L p.frame p.todo (put_into p.into g.env v) p.frame.next g.doom
  parent_gave p true g v = refl
  parent_gave p false g v = refl

  pub micro_kept : (fr : Frame) (ph : Phase) (t : List Parent) (g : Beside) (gs : List Beside) → TaskFits program B m fr ph t g gs → Sees acc sight ph → K (rest_of fr ph t g gs) (micro program tables lookup kit acc m fr ph t)
  micro_kept fr (entering child) t g gs h sees =
      subst (λ f. K (rest_of f (entering child) t g gs) (enter_step program tables lookup kit acc f child t)) (sym h.frame_fits.orderly) (enter_kept fr.left child fr.instance t gs g h.under_fits h.fringe h.stacked)
  micro_kept fr (running todo) t g gs h sees = todo_kept fr todo t g gs h sees
  micro_kept fr (spawning d x child todo) t g gs h sees = tt
  micro_kept fr (returning v) t g gs h sees =
      unless_kept _ (is_entry m fr.instance) _ (λ e.
      let f = h.frame_fits in
      let above = spot_above m fr.instance fr.next h.fringe e in
      let q = doom_passes m fr.instance B early above g.doom f.doomed in
      record {
        top = g;
        others = gs;
        task = record { frame_fits = record { waiting = f.waiting; orderly = tt; slots = f.slots; doomed = f.doomed }; under_fits = h.under_fits; fringe = above; stacked = h.stacked };
        goes_on = ap (λ d. go_on fr.instance (over fr.instance d v) t gs) q;
        inside = (above, tt);
      })
  micro_kept fr (leaving v) [] g gs h sees = tt
  micro_kept fr (leaving v) (p ∷ t) g [] h sees = absurd h.under_fits
  micro_kept fr (leaving v) (p ∷ t) g (k ∷ ks) h sees =
      let f = h.under_fits.0 in
      record {
        top = record { env = put_into p.into k.env v; doom = k.doom };
        others = ks;
        task = record { frame_fits = record { waiting = f.waiting; orderly = f.orderly; slots = set_into_fits B p.frame.instance f.waiting v p.frame.env k.env p.into f.slots; doomed = f.doomed }; under_fits = h.under_fits.1; fringe = parent_spot m fr.instance p.frame.instance h.stacked.0.number p.frame.next h.stacked.0.is h.stacked.0.counted h.fringe; stacked = h.stacked.1 };
        goes_on = ap (λ r. Leaves fr.instance (Ok v) ∷ go_on p.frame.instance r t ks) (parent_gave p p.spawned k v);
        inside = (tt, tt);
      }
  micro_kept fr (broken k) t g gs h sees = tt
