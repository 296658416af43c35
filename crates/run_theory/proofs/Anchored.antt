-- What is left to do of instances, where values in hand fill their names, as stretches of the whole trail.
use Rattle.std.proofs.Common.{◌⊎◌, Bool, true, false, ◌-◌, ℕ, List, [], ◌∷◌, ◌++◌, append_assoc, append-nil, Option, Some, None, Ok, Err, ℤ, ◌≡◌, inl, inr, refl, sym, ap, ap₂, ◌∙◌, subst}
use Rattle.meaning.specs.Tables.{Tables}
use Rattle.meaning.specs.Outcome.{Log, Event, Accumulators, Fault, Outcome, Place, Leaves, Spawns, after}
use Rattle.meaning.specs.Values.{Env}
use Rattle.meaning.specs.Statements.{identities, beginning, initial_values, put_into, proc_of, fresh}
use Rattle.meaning.specs.Elision.{main, start, elide, depth_limit}
use Rattle.meaning.specs.Records.{Revised}
use Rattle.meaning.specs.Trail.{opening, inner, over, run_inside, runner, blocks_walk}
use Rattle.meaning.specs.SmallStep.{Start, Frame, Todo, blocks, halves, second, turns, Child, instance, half, Phase, entering, running, spawning, returning, leaving, broken, Parent, child_name, opened, stepped_past}
use Rattle.meaning.specs.Layers.{Notes, blank}
use Rattle.meaning.specs.Rest.{Course, then_on, values_of, blocks_left, todo_left, child_left, entering_left, phase_left, parents_left}
use Rattle.meaning.specs.RestOfRun.{Hand, lowest, times_layers}
use Rattle.meaning.specs.Schedules.{Memory}
use Rattle.trail_theory.specs.Order.{In, Every}
use Rattle.trail_theory.specs.SerialRest.{Beside, child_inside, todo_walk, phase_walk, parent_walk, below}
use Rattle.trail_theory.specs.TaskFits.{IsOrderlyPhase, EnvFits, DoomFits, UnderFits}
use Rattle.trail_theory.specs.ElisionBeside.{first_fault, before_fault, forgotten}
use Rattle.trail_theory.specs.MainReads.{IsQuietTodo, ReadTodo, TodoReads, of_other, of_main, SpawnedReads, past_other, past_main, ChildReads, PhaseReads, UnderReads}
use Rattle.trail_theory.specs.ReadsAtEnd.{IsOther, EntersOnly, ReadsAtEnd}
use Rattle.trail_theory.specs.Right.{stretch, LayersFit, RightAt, full_rest}
use Rattle.trail_theory.proofs.Order.{same_split, ordered_front}
use Rattle.trail_theory.proofs.Places.{in_left}
use Rattle.trail_theory.proofs.Advances.{ordered_at}
use Rattle.trail_theory.proofs.FirstFaults.{quiet_first, inside_none, before_append, before_first, before_all, first_kept}
use Rattle.trail_theory.proofs.Ends.{worth_of, main_regroup}
use Rattle.trail_theory.proofs.Elides.{after_append, forgotten_append, forgotten_opening, quiet_opening}
use Rattle.trail_theory.proofs.MainElides.{begun, begun_after, trail_from_scratch}
use Rattle.strand_theory.specs.Ready.{IsReady}
use Rattle.run_theory.proofs.Courses.{then_pure, then_assoc, seen_slot}
use Rattle.strand_theory.proofs.Laws.{S, L}
use Rattle.run_theory.proofs.Awaited.{SlotsWait, UnderWait}
use Rattle.run_theory.proofs.Serial.{Came, came_led, then_fell, goes_on, todo_came, parent_same, child_came, phase_came}
use Rattle.run_theory.proofs.Overs.{T, look, worth_at, same_before, starts_end, layers_worth, HasCome}
use Rattle.run_theory.proofs.Hands.{fill_env, filled_frame, filled, InHand, HandFits, IsSpared, SameUnder, env_filled, doom_none, under_same, fill_new}
use Rattle.run_theory.proofs.Blame.{spared_before}
use Rattle.run_theory.proofs.MainLeft.{fits_log, main_came}

-- ---- logs

forgotten_end : (es : Log) (n : Place) (o : Outcome) (x : Option Fault) → first_fault es ≡ x → forgotten (before_fault (es ++ Leaves n o ∷ [])) ≡ forgotten (before_fault es)
forgotten_end es n o (Some k) e = ap forgotten (before_first es (Leaves n o ∷ []) k e)
forgotten_end es n o None e =
    ap forgotten (before_append es (Leaves n o ∷ []) e) ∙ forgotten_append es (Leaves n o ∷ []) ∙ append-nil (forgotten es) ∙ ap forgotten (sym (before_all es e))

one_more : (W a b z : Log) (x y : Event) (T : Log) → W ++ x ∷ (((a ++ y ∷ []) ++ b) ++ z) ≡ T → (W ++ x ∷ a) ++ y ∷ (b ++ z) ≡ T
one_more W a b z x y T h = simp append_assoc (simp append_assoc at h)

spawn_log : (W a r : Log) (s l : Event) → (W ++ s ∷ a) ++ l ∷ r ≡ W ++ s ∷ ((a ++ l ∷ []) ++ r)
spawn_log W a r s l = append_assoc W (s ∷ a) (l ∷ r) ∙ ap (λ y. W ++ s ∷ y) (sym (append_assoc a (l ∷ []) r))

spawned_on : (W a r z : Log) (s l y : Event) (T : Log) → W ++ ((s ∷ ((a ++ l ∷ []) ++ r)) ++ y ∷ z) ≡ T → ((W ++ s ∷ a) ++ l ∷ r) ++ y ∷ z ≡ T
spawned_on W a r z s l y T h = simp append_assoc (simp append_assoc at h)

left_on : (W a z : Log) (l y : Event) (T : Log) → (W ++ l ∷ a) ++ y ∷ z ≡ T → (W ++ l ∷ []) ++ (a ++ y ∷ z) ≡ T
left_on W a z l y T h = simp append_assoc (simp append_assoc at h)

opened_on : (W a b z : Log) (T : Log) → W ++ ((a ++ b) ++ z) ≡ T → (W ++ a) ++ (b ++ z) ≡ T
opened_on W a b z T h = simp append_assoc (simp append_assoc at h)

begun_on : (D E a b z : Log) (y : Event) (T : Log) → D ++ (E ++ (((a ++ y ∷ []) ++ b) ++ z)) ≡ T → ((D ++ E) ++ (a ++ y ∷ (b ++ z)) ≡ T) × (((D ++ E) ++ a) ++ y ∷ (b ++ z) ≡ T)
begun_on D E a b z y T h = (simp append_assoc (simp append_assoc at h), simp append_assoc (simp append_assoc at h))

-- ---- what is left of an instance reads nothing, or is main's

abbrev pub LeftReads : Place → Todo → Type 0
LeftReads n todo = IsQuietTodo todo ⊎ ((n ≡ []) × ((b : Bool) × ReadTodo b todo))

of_todo : (D : Log) (n : Place) (todo : Todo) → TodoReads D n todo → LeftReads n todo
of_todo D n todo (of_other m q) = inl q
of_todo D n todo (of_main e b r s) = inr (e, (b, r))

pub of_spawned : (n : Place) (todo : Todo) → SpawnedReads n todo → LeftReads n todo
of_spawned n todo (past_other m q) = inl q
of_spawned n todo (past_main e r) = inr (e, (false, r))

abbrev pub AllLeft : List Parent → Type 0
AllLeft t = Every (λ p. LeftReads p.frame.instance p.todo) t

pub all_left : (D : Log) (t : List Parent) → UnderReads D t → AllLeft t
all_left D [] h = tt
all_left D (p ∷ t) h = (of_todo D p.frame.instance p.todo h.0, all_left D t h.1)

-- the instance below all
abbrev pub bottom : Place → List Parent → Place
bottom n [] = n
bottom n (p ∷ t) = bottom p.frame.instance t

pub bottom_is : (fr : Frame) (t : List Parent) → bottom fr.instance t ≡ lowest fr t
bottom_is fr [] = refl
bottom_is fr (p ∷ t) = bottom_is p.frame t

module _ (program : Revised) (tables : Tables) (memory : Memory) (ready : IsReady program tables memory) where
  abbrev All : Log
  All = T program tables memory ready

  abbrev Ids : Accumulators
  Ids = identities program.tree

  -- the reducers' values behind a stretch
  abbrev pub acc_at : Log → Accumulators
  acc_at W = after (forgotten W) Ids

  -- main goes on to what a read sees
  seen_at : (W es later : Log) (out : Outcome) → first_fault W ≡ None → W ++ (es ++ Leaves [] out ∷ later) ≡ All → after (forgotten (before_fault es)) (acc_at W) ≡ S program tables memory
  seen_at W es later out z f =
      let P = program.tree in
      let d = depth_limit - 1 in
      let lk = look program tables memory ready in
      let O = elide P tables depth_limit start main [] (initial_values P) in
      let ops = opening P lk d main [] [] in
      let inside = run_inside P tables (S program tables memory) (runner P tables (S program tables memory) d (inner P lk d main [])) d main [] [] in
      let with_rest : (W ++ es) ++ Leaves [] out ∷ later ≡ All = append_assoc W es (Leaves [] out ∷ later) ∙ f in
      let as_run : (beginning P ++ (ops ++ inside.events)) ++ Leaves [] inside.outcome ∷ [] ≡ All = main_regroup (beginning P) ops inside.events inside.outcome in
      let q = same_split [] (W ++ es) later (beginning P ++ (ops ++ inside.events)) [] out inside.outcome (ordered_at P tables (S program tables memory) (L program tables memory) _ with_rest) (ordered_at P tables (S program tables memory) (L program tables memory) _ as_run) (with_rest ∙ sym as_run) in
      let g : W ++ (es ++ Leaves [] out ∷ []) ≡ All = ap (λ l. W ++ (es ++ Leaves [] out ∷ l)) (sym q.later) ∙ f in
      let log : beginning P ++ O.log ≡ forgotten (before_fault All) = fits_log (begun P O) All inside.outcome (trail_from_scratch P tables ready.rules.reads lk) in
      let cut : forgotten (before_fault All) ≡ forgotten W ++ forgotten (before_fault es) =
      ap (λ l. forgotten (before_fault l)) (sym g) ∙ ap forgotten (before_append W (es ++ Leaves [] out ∷ []) z) ∙ forgotten_append W (before_fault (es ++ Leaves [] out ∷ []))
      ∙ ap (λ l. forgotten W ++ l) (forgotten_end es [] out (first_fault es) refl) in
      sym (sym (begun_after P O) ∙ ap (λ l. after l Ids) (log ∙ cut) ∙ after_append (forgotten W) (forgotten (before_fault es)) Ids)

  todo_at : (fr : Frame) (todo : Todo) → LeftReads fr.instance todo → (env : Env) (c : ℕ) (W later : Log) → first_fault W ≡ None
      → (let r = todo_walk program.tree tables (S program tables memory) (look program tables memory ready) fr todo env c None in W ++ (r.events ++ Leaves fr.instance r.outcome ∷ later) ≡ All → Came (todo_left program.tree tables fr.left fr.here todo env (acc_at W)) (acc_at W) r.events r.outcome)
  todo_at fr todo (inl q) env c W later z e = todo_came program.tree tables (S program tables memory) ready.rules.reads (look program tables memory ready) fr todo q env c (acc_at W)
  todo_at fr (blocks bs) (inr h) env c W later z e =
      let r = todo_walk program.tree tables (S program tables memory) (look program tables memory ready) fr (blocks bs) env c None in
      main_came program.tree tables (S program tables memory) ready.rules.reads fr.left (look program tables memory ready) fr.instance fr.here bs h.1.0 h.1.1 env c (acc_at W)
      (seen_at W r.events later r.outcome z (subst (λ n. W ++ (r.events ++ Leaves n r.outcome ∷ later) ≡ All) h.0 e))
  todo_at fr (halves k job count i) (inr h) env c W later z e = absurd h.1.1
  todo_at fr (second k job count i) (inr h) env c W later z e = absurd h.1.1
  todo_at fr (turns job count i) (inr h) env c W later z e = absurd h.1.1

  -- what comes behind a leaving has the same values
  still_at : (W : Log) (n : Place) (o : Outcome) → acc_at (W ++ Leaves n o ∷ []) ≡ acc_at W
  still_at W n o = ap (λ l. after l Ids) (forgotten_append W (Leaves n o ∷ []) ∙ append-nil (forgotten W))

  module _ (hand : Hand) where
    -- a parent goes on, where its child has come to an end
    abbrev parent_left : Parent → ℤ → Accumulators → Course ℤ
    parent_left p v = todo_left program.tree tables p.frame.left p.frame.here p.todo (put_into p.into (values_of (fill_env hand p.frame.instance p.frame.env)) v)

    parent_at : (p : Parent) (g : Beside) → LeftReads p.frame.instance p.todo → values_of (fill_env hand p.frame.instance p.frame.env) ≡ g.env → g.doom ≡ None → (n : Place) (c : Course ℤ) (W : Log) (out : Outcome) (later : Log) → Came c Ids W out
        → (let r = parent_walk program.tree tables (S program tables memory) (look program tables memory ready) p p.spawned g out in (W ++ Leaves n out ∷ r.events) ++ Leaves p.frame.instance r.outcome ∷ later ≡ All → Came (then_on c (parent_left p)) Ids (W ++ Leaves n out ∷ r.events) r.outcome)
    parent_at p g q e d n c W out later (inr f) h =
        let r = parent_walk program.tree tables (S program tables memory) (look program tables memory ready) p p.spawned g out in
        inr (record { fault = f.fault; course = then_fell c (parent_left p) f.fault f.course; first = first_kept W (Leaves n out ∷ r.events) f.fault f.first })
    parent_at p g q e d n c W out later (inl w) h =
        let P = program.tree in
        let s = S program tables memory in
        let lk = look program tables memory ready in
        let r = todo_walk P tables s lk p.frame p.todo (put_into p.into g.env w.value) p.frame.next None in
        let onto = W ++ Leaves n out ∷ [] in
        let walk = parent_same P tables s ready.rules.reads lk p g p.spawned w.value d ∙ ap (λ o. parent_walk P tables s lk p p.spawned g o) (sym w.outcome) in
        subst (λ x. (W ++ Leaves n out ∷ x.events) ++ Leaves p.frame.instance x.outcome ∷ later ≡ All → Came (then_on c (parent_left p)) Ids (W ++ Leaves n out ∷ x.events) x.outcome) walk
        (λ k.
        let more = todo_at p.frame p.todo q (put_into p.into g.env w.value) p.frame.next onto later (quiet_first W (Leaves n out ∷ []) w.quiet) (left_on W r.events later (Leaves n out) (Leaves p.frame.instance r.outcome) All k) in
        let moved = subst (λ a. Came (todo_left P tables p.frame.left p.frame.here p.todo (put_into p.into g.env w.value) a) a r.events r.outcome) (still_at W n out) more in
        goes_on n c Ids W out w (parent_left p w.value (acc_at W)) (parent_left p) refl r.events r.outcome (subst (λ E. Came (todo_left P tables p.frame.left p.frame.here p.todo (put_into p.into E w.value) (acc_at W)) (acc_at W) r.events r.outcome) (sym e) moved)) h

    -- the course so far stands where that instance is left, and what was on the trail in front of the strand still is
    pub record At (D : Log) (c : Course ℤ) (n : Place) : Type 0 where
      pub whole : Log
      pub later : Log
      pub outcome : Outcome
      pub is_trail : whole ++ Leaves n outcome ∷ later ≡ All
      pub came : Came c Ids whole outcome
      pub kept : (e : Event) → In e D → In e whole

    pub stack_at : (D : Log) (t : List Parent) (gs : List Beside) → SameUnder hand t gs → AllLeft t → (n : Place) (c : Course ℤ) (W beyond : Log) (out : Outcome) → Came c Ids W out → ((e : Event) → In e D → In e W)
        → W ++ Leaves n out ∷ ((below program.tree tables (S program tables memory) (look program tables memory ready) t gs out).events ++ beyond) ≡ All → At D (then_on c (parents_left program.tree tables (filled hand t))) (bottom n t)
    stack_at D [] [] h q n c W beyond out k i e = record { whole = W; later = beyond; outcome = out; is_trail = e; came = subst (λ x. Came x Ids W out) (sym (then_pure c)) k; kept = i }
    stack_at D [] (g ∷ gs) h q n c W beyond out k i e = absurd h
    stack_at D (p ∷ t) [] h q n c W beyond out k i e = absurd h
    stack_at D (p ∷ t) (g ∷ gs) h q n c W beyond out k i e =
        let P = program.tree in
        let r = parent_walk P tables (S program tables memory) (look program tables memory ready) p p.spawned g out in
        let b = below P tables (S program tables memory) (look program tables memory ready) t gs r.outcome in
        let onto = W ++ Leaves n out ∷ r.events in
        let next_trail : onto ++ Leaves p.frame.instance r.outcome ∷ (b.events ++ beyond) ≡ All = one_more W r.events b.events beyond (Leaves n out) (Leaves p.frame.instance r.outcome) All e in
        let more = parent_at p g q.0 h.0 h.1.0 n c W out (b.events ++ beyond) k next_trail in
        let l = stack_at D t gs h.1.1 q.1 p.frame.instance (then_on c (parent_left p)) onto beyond r.outcome more (λ x j. in_left x W (Leaves n out ∷ r.events) (i x j)) next_trail in
        subst (λ x. At D x (bottom p.frame.instance t)) (then_assoc c (parent_left p) (parents_left P tables (filled hand t))) l

    -- ---- the topmost instance

    entered_at : (fr : Frame) (child : Child) (D W later : Log) → ChildReads D fr.instance child → fr ≡ opened program.tree fr.left child fr.instance → first_fault W ≡ None
        → (let r = child_inside program.tree tables (S program tables memory) (look program tables memory ready) fr.left child fr.instance in W ++ (r.events ++ Leaves fr.instance r.outcome ∷ later) ≡ All → Came (child_left program.tree tables fr.left child (acc_at W)) (acc_at W) r.events r.outcome)
    entered_at fr (half k job count i) D W later q o z e = child_came program.tree tables (S program tables memory) ready.rules.reads (look program tables memory ready) fr.left (half k job count i) q.1 fr.instance (acc_at W)
    entered_at fr (instance f vs) D W later (inl q) o z e = child_came program.tree tables (S program tables memory) ready.rules.reads (look program tables memory ready) fr.left (instance f vs) q.1 fr.instance (acc_at W)
    entered_at fr (instance f vs) D W later (inr q) o z e =
        let P = program.tree in
        let s = S program tables memory in
        let lk = look program tables memory ready in
        let n = fr.instance in
        let k = inner P lk fr.left f vs in
        let p = proc_of P f in
        let env = fresh p.names vs in
        let ops = opening P lk fr.left f vs n in
        let r = blocks_walk P tables s (runner P tables s fr.left k) fr.left n p.called (p.body ∷ []) env 1 None in
        let still : acc_at (W ++ ops) ≡ acc_at W = ap (λ l. after l Ids) (forgotten_append W ops) ∙ after_append (forgotten W) (forgotten ops) Ids ∙ ap (λ l. after l (acc_at W)) (forgotten_opening IsOther P tables s lk fr.left f vs n p.memo) in
        let quiet = quiet_first W ops z ∙ quiet_opening IsOther P tables s lk fr.left f vs n p.memo in
        let at_main : (W ++ ops) ++ (r.events ++ Leaves [] r.outcome ∷ later) ≡ All = subst (λ m. (W ++ ops) ++ (r.events ++ Leaves m r.outcome ∷ later) ≡ All) q.0 (opened_on W ops r.events (Leaves n r.outcome ∷ later) All e) in
        let reads : ReadsAtEnd true p.body × EntersOnly IsOther p.body = (subst (λ g. ReadsAtEnd true (proc_of P g).body) (sym q.1.0) ready.rules.reads.in_main, ready.rules.reads.alone f) in
        let known = subst (λ a. after (forgotten (before_fault r.events)) a ≡ s) still (seen_at (W ++ ops) r.events later r.outcome quiet at_main) in
        let inside = main_came P tables s ready.rules.reads fr.left k n p.called (p.body ∷ []) true reads env 1 (acc_at W) known in
        let same : acc_at W ≡ after (forgotten ops) (acc_at W) = sym (ap (λ l. after l (acc_at W)) (forgotten_opening IsOther P tables s lk fr.left f vs n p.memo)) in
        came_led ops (child_left P tables fr.left (instance f vs) (acc_at W)) (acc_at W) r.events r.outcome (quiet_opening IsOther P tables s lk fr.left f vs n p.memo)
        (subst (λ a. Came (child_left P tables fr.left (instance f vs) (acc_at W)) a r.events r.outcome) same inside)

    entering_filled : (fr : Frame) (child : Child) → fr ≡ opened program.tree fr.left child fr.instance → (acc : Accumulators) → child_left program.tree tables fr.left child acc ≡ entering_left program.tree tables (filled_frame hand fr) child acc
    entering_filled fr (half k job count i) e acc = refl
    entering_filled fr (instance f vs) e acc =
        let p = proc_of program.tree f in
        let E = fresh p.names vs in
        let names : values_of (fill_env hand fr.instance fr.env) ≡ E = ap (λ x. values_of (fill_env hand fr.instance x.env)) e ∙ ap values_of (fill_new hand fr.instance E) ∙ seen_slot E in
        ap₂ (λ here env. blocks_left program.tree tables fr.left here (p.body ∷ []) env acc) (sym (ap (λ x. x.here) e)) (sym names)

    phase_at : (D W later : Log) (V : List ℕ) (fr : Frame) (ph : Phase) (g : Beside) → PhaseReads D fr.instance ph → IsOrderlyPhase program.tree V fr ph → values_of (fill_env hand fr.instance fr.env) ≡ g.env → g.doom ≡ None → first_fault W ≡ None
        → (let r = phase_walk program.tree tables (S program tables memory) (look program tables memory ready) fr ph g in W ++ (r.events ++ Leaves fr.instance r.outcome ∷ later) ≡ All → Came (phase_left program.tree tables (filled_frame hand fr) ph (acc_at W)) Ids (W ++ r.events) r.outcome)
    phase_at D W later V fr (entering child) g q o e d z h =
        let P = program.tree in
        let r = child_inside P tables (S program tables memory) (look program tables memory ready) fr.left child fr.instance in
        came_led W (phase_left P tables (filled_frame hand fr) (entering child) (acc_at W)) Ids r.events r.outcome z
        (subst (λ x. Came x (acc_at W) r.events r.outcome) (entering_filled fr child o (acc_at W)) (entered_at fr child D W later q o z h))
    phase_at D W later V fr (running todo) g q o e d z h =
        let P = program.tree in
        let s = S program tables memory in
        let lk = look program tables memory ready in
        let r = todo_walk P tables s lk fr todo g.env fr.next g.doom in
        let at_doom = subst (λ k. let r = todo_walk P tables s lk fr todo g.env fr.next k in W ++ (r.events ++ Leaves fr.instance r.outcome ∷ later) ≡ All → Came (todo_left P tables fr.left fr.here todo g.env (acc_at W)) (acc_at W) r.events r.outcome) (sym d)
        (λ x. todo_at fr todo (of_todo D fr.instance todo q) g.env fr.next W later z x) h in
        came_led W (phase_left P tables (filled_frame hand fr) (running todo) (acc_at W)) Ids r.events r.outcome z
        (subst (λ E. Came (todo_left P tables fr.left fr.here todo E (acc_at W)) (acc_at W) r.events r.outcome) (sym e) at_doom)
    phase_at D W later V fr (spawning d' x child todo) g q o e d z h =
        let P = program.tree in
        let s = S program tables memory in
        let lk = look program tables memory ready in
        let n = child_name fr in
        let one = child_inside P tables s lk d' child n in
        let c = child_left P tables d' child (acc_at W) in
        let begun = came_led (Spawns n ∷ []) c (acc_at W) one.events one.outcome refl (child_came P tables s ready.rules.reads lk d' child q.0 n (acc_at W)) in
        let whole : Came c Ids (W ++ Spawns n ∷ one.events) one.outcome = came_led W c Ids (Spawns n ∷ one.events) one.outcome z begun in
        let p : Parent = record { frame = stepped_past fr; spawned = true; into = x; todo = todo } in
        let r = parent_walk P tables s lk p true g one.outcome in
        let all = parent_at p g (of_spawned fr.instance todo q.1) e d n c (W ++ Spawns n ∷ one.events) one.outcome later whole (spawned_on W one.events r.events later (Spawns n) (Leaves n one.outcome) (Leaves fr.instance r.outcome) All h) in
        subst (λ l. Came (phase_left P tables (filled_frame hand fr) (spawning d' x child todo) (acc_at W)) Ids l r.outcome) (spawn_log W one.events r.events (Spawns n) (Leaves n one.outcome)) all
    phase_at D W later V fr (returning v) g q o e d z h =
        let r = over fr.instance g.doom v in
        came_led W (Ok v, acc_at W) Ids r.events r.outcome z (phase_came program.tree tables (S program tables memory) ready.rules.reads (look program tables memory ready) V (filled_frame hand fr) (returning v) g tt tt e d (acc_at W))
    phase_at D W later V fr (leaving v) g q o e d z h =
        came_led W (Ok v, acc_at W) Ids [] (Ok v) z (phase_came program.tree tables (S program tables memory) ready.rules.reads (look program tables memory ready) V (filled_frame hand fr) (leaving v) g tt tt e d (acc_at W))
    phase_at D W later V fr (broken k) g q o e d z h =
        let r = phase_walk program.tree tables (S program tables memory) (look program tables memory ready) fr (broken k) g in
        came_led W (Err k, acc_at W) Ids r.events r.outcome z (phase_came program.tree tables (S program tables memory) ready.rules.reads (look program tables memory ready) V (filled_frame hand fr) (broken k) g tt tt e d (acc_at W))

    -- ---- a strand

    abbrev pub Held : Place → ℕ → Type 0
    Held n j = InHand hand (n ++ j ∷ [])

    pub spared : (D : Log) (m : Start) → HasCome program tables memory ready D m → IsSpared D
    spared D m d = spared_before program.tree tables (S program tables memory) (look program tables memory ready) D d.later d.is_trail d.quiet

    pub strand_at : (D : Log) (m : Start) (ls : List Notes) (fr : Frame) (ph : Phase) (t : List Parent) → (d : HasCome program tables memory ready D m) → HandFits D hand → (h : RightAt program.tree tables (S program tables memory) (L program tables memory) m ls fr ph t) → LayersFit program.tree ls h.segments
        → SlotsWait Held fr.instance fr.env → UnderWait Held t
        → At D (then_on (phase_left program.tree tables (filled_frame hand fr) ph (times_layers program.tree tables (worth_at program tables memory ready D) ls)) (parents_left program.tree tables (filled hand t))) (bottom fr.instance t)
    strand_at D m ls fr ph t d fits h logged slots under =
        let P = program.tree in
        let s = S program tables memory in
        let lk = look program tables memory ready in
        let E = stretch h.segments in
        let rest = full_rest P tables s (L program tables memory) fr ph t h.top h.others ++ h.beyond in
        let same : D ≡ h.before = same_before program tables memory ready m D d.later h.before (E ++ rest) d.is_trail h.is_trail d.ends (starts_end m h.before h.starts) in
        let trail : D ++ (E ++ rest) ≡ All = ap (λ b. b ++ (E ++ rest)) same ∙ h.is_trail in
        let order = ordered_at P tables s (L program tables memory) (D ++ d.later) d.is_trail in
        let f = h.task.frame_fits in
        let W = D ++ E in
        let quiet = quiet_first D E d.quiet ∙ inside_none m E h.inside in
        let worth : times_layers P tables (worth_at program tables memory ready D) ls ≡ acc_at W = layers_worth program tables memory ready D ls h.segments rest trail logged ∙ sym (worth_of (blank P) W) in
        let ok = spared D m d in
        let o = ordered_front D d.later order in
        let env = env_filled D o hand fits ok fr.instance f.waiting 0 fr.env h.top.env slots (subst (λ b. EnvFits b fr.instance f.waiting 0 fr.env h.top.env) (sym same) f.slots) in
        let doom = doom_none D o hand fits ok fr.instance h.top.doom (subst (λ b. DoomFits b fr.instance h.top.doom) (sym same) f.doomed) in
        let others = under_same D o hand fits ok P t h.others under (subst (λ b. UnderFits P b t h.others) (sym same) h.task.under_fits) in
        let reads = h.reads ready.rules.reads in
        let r = phase_walk P tables s lk fr ph h.top in
        let b = below P tables s lk t h.others r.outcome in
        let e = begun_on D E r.events b.events h.beyond (Leaves fr.instance r.outcome) All trail in
        let c = phase_left P tables (filled_frame hand fr) ph (acc_at W) in
        let one : Came c Ids (W ++ r.events) r.outcome = phase_at (h.before ++ E) W (b.events ++ h.beyond) f.waiting fr ph h.top reads.0 f.orderly env doom quiet e.0 in
        let all = stack_at D t h.others others (all_left (h.before ++ E) t reads.1) fr.instance c (W ++ r.events) h.beyond r.outcome one (λ x j. in_left x W r.events (in_left x D E j)) e.1 in
        subst (λ a. At D (then_on (phase_left P tables (filled_frame hand fr) ph a) (parents_left P tables (filled hand t))) (bottom fr.instance t)) (sym worth) all
