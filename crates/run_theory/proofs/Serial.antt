-- What is left to do of instances beside what the trail has left of them.
use Rattle.std.proofs.Common.{Bool, true, false, ◌⊎◌, ◌-◌, ℕ, suc, List, [], ◌∷◌, ◌++◌, append_assoc, append-nil, Option, Some, None, Ok, Err, ℤ, pos, ◌≡◌, inl, inr, refl, sym, ap, ap₂, ◌∙◌, subst}
use Rattle.meaning.specs.Tree.{Name, Body, Tree}
use Rattle.meaning.specs.Tables.{Tables}
use Rattle.meaning.specs.Outcome.{Log, Accumulators, Fault, Outcome, Place, Begins, Leaves, Spawns, Out, after}
use Rattle.meaning.specs.Run.{Run, pure, ◌>>=◌}
use Rattle.meaning.specs.Values.{Env}
use Rattle.meaning.specs.Statements.{Job, put_into, proc_of, fresh}
use Rattle.meaning.specs.Elision.{Next, On, Back, body, elide, depth_limit}
use Rattle.meaning.specs.Elision as elision
use Rattle.meaning.specs.Trail.{Runner, Look, inner, opening, over, blocks_walk, loop_walk, second_walk, turns_walk, half_closed, child_of, runner}
use Rattle.meaning.specs.SmallStep.{Slot, unset, waits, has, seen, Frame, Todo, blocks, halves, second, turns, Child, instance, half, Phase, entering, running, spawning, returning, leaving, broken, Parent, opened, child_name}
use Rattle.meaning.specs.Rest.{Course, course_of, then_on, past, values_of, blocks_left, turns_left, todo_left, child_left, entering_left, phase_left, parents_left}
use Rattle.meaning.specs.RestOfRun.{lowest}
use Rattle.trail_theory.specs.Order.{Every}
use Rattle.trail_theory.specs.SerialRest.{Beside, child_inside, todo_walk, phase_walk, parent_walk, below}
use Rattle.trail_theory.specs.TaskFits.{SlotFits, same, late, lost, EnvFits, DoomFits, sound, hit, IsOrderlyPhase, UnderFits}
use Rattle.trail_theory.specs.ElisionBeside.{forgotten, first_fault, Fits, Matches}
use Rattle.trail_theory.specs.MainReads.{IsQuiet, IsQuietTodo, IsOtherChild}
use Rattle.trail_theory.specs.ReadsAtEnd.{IsOther, ReadsAtMainsEnd}
use Rattle.trail_theory.proofs.Walks.{Opens, half_opens, good_runs, has_blocks}
use Rattle.trail_theory.proofs.Inside.{doomed}
use Rattle.trail_theory.proofs.FirstFaults.{quiet_first, first_kept}
use Rattle.trail_theory.proofs.Elides.{forgotten_append, after_append, Anything, anything, finish, body_fits, elide_fits, plain, plain_of, plain_bind, turns_fit, loop_fit, half_fits, call_fits, forgotten_opening, quiet_opening, Elides}
use Rattle.trail_theory.proofs.MainElides.{others_quiet}
use Rattle.run_theory.specs.OverRuns.{IsQuietPhase, AreQuietParents}
use Rattle.run_theory.proofs.Courses.{then_pure, then_same, then_assoc, bind_course, seen_slot}

-- ---- slots for which nothing waits

slot_same : (n : Place) (W : List ℕ) (x : ℕ) (s : Slot) (o : Option ℤ) → SlotFits [] n W x s o → seen s ≡ o
slot_same n W x unset o (same e) = sym e
slot_same n W x (waits j) o (same e) = absurd e
slot_same n W x (has v) o (same e) = sym e
slot_same n W x s o (late i w) = absurd i
slot_same n W x s o (lost k i w) = absurd i

pub env_same : (n : Place) (W : List ℕ) (x : ℕ) (env : List Slot) (E : Env) → EnvFits [] n W x env E → values_of env ≡ E
env_same n W x [] [] h = refl
env_same n W x [] (o ∷ E) h = absurd h
env_same n W x (s ∷ env) [] h = absurd h
env_same n W x (s ∷ env) (o ∷ E) h = ap₂ ◌∷◌ (slot_same n W x s o h.0) (env_same n W (suc x) env E h.1)

pub doom_same : (n : Place) (d : Option Fault) → DoomFits [] n d → d ≡ None
doom_same n d sound = refl
doom_same n d (hit j k i) = absurd i

-- ---- courses beside stretches of the trail

-- it has gone through without a fault
pub record Went (c : Course ℤ) (acc : Accumulators) (es : Log) (out : Outcome) : Type 0 where
  pub value : ℤ
  pub outcome : out ≡ Ok value
  pub course : c ≡ (Ok value, after (forgotten es) acc)
  pub quiet : first_fault es ≡ None

-- or has ended with the stretch's first fault
pub record Fell (c : Course ℤ) (es : Log) : Type 0 where
  pub fault : Fault
  pub course : c.0 ≡ Err fault
  pub first : first_fault es ≡ Some fault

abbrev pub Came : Course ℤ → Accumulators → Log → Outcome → Type 0
Came c acc es out = Went c acc es out ⊎ Fell c es

pub came : (o : Out Fault ℤ) (acc : Accumulators) (es : Log) (out : Outcome) → Fits o es out → Came (o.answer, after o.log acc) acc es out
came o acc es (Ok v) h = inl (record { value = v; outcome = refl; course = ap (λ x. (x.answer, after x.log acc)) h.0; quiet = h.1 })
came o acc es (Err k) h = inr (record { fault = k; course = h.0; first = h.1.1 })

pub then_fell : (c : Course ℤ) (f : ℤ → Accumulators → Course ℤ) (k : Fault) → c.0 ≡ Err k → (then_on c f).0 ≡ Err k
then_fell (Ok v, acc) f k e = absurd cc
then_fell (Err j, acc) f k e = e

-- a stretch without a fault, the leaving, and then more
pub goes_on : (n : Place) (c : Course ℤ) (acc : Accumulators) (es : Log) (out : Outcome) (w : Went c acc es out) (d : Course ℤ) (F : ℤ → Accumulators → Course ℤ) → d ≡ F w.value (after (forgotten es) acc) → (more : Log) (last : Outcome) → Came d (after (forgotten es) acc) more last
    → Came (then_on c F) acc (es ++ Leaves n out ∷ more) last
goes_on n c acc es out w d F z more last k =
    let whole : then_on c F ≡ d = ap (λ x. then_on x F) w.course ∙ sym z in
    let kept : after (forgotten more) (after (forgotten es) acc) ≡ after (forgotten (es ++ Leaves n out ∷ more)) acc = sym (after_append (forgotten es) (forgotten more) acc) ∙ ap (λ l. after l acc) (sym (forgotten_append es (Leaves n out ∷ more))) in
    elim k [
      | inl v ↦ inl (record { value = v.value; outcome = v.outcome; course = whole ∙ v.course ∙ ap (λ a. (Ok v.value, a)) kept; quiet = quiet_first es (Leaves n out ∷ more) w.quiet ∙ v.quiet })
      | inr f ↦ inr (record { fault = f.fault; course = ap (λ x. x.0) whole ∙ f.course; first = quiet_first es (Leaves n out ∷ more) w.quiet ∙ f.first })
    ]

-- behind a stretch without a fault
pub came_led : (a : Log) (c : Course ℤ) (acc : Accumulators) (es : Log) (out : Outcome) → first_fault a ≡ None → Came c (after (forgotten a) acc) es out → Came c acc (a ++ es) out
came_led a c acc es out q (inl w) =
    let kept : after (forgotten es) (after (forgotten a) acc) ≡ after (forgotten (a ++ es)) acc = sym (after_append (forgotten a) (forgotten es) acc) ∙ ap (λ l. after l acc) (sym (forgotten_append a es)) in
    inl (record { value = w.value; outcome = w.outcome; course = w.course ∙ ap (λ b. (Ok w.value, b)) kept; quiet = quiet_first a es q ∙ w.quiet })
came_led a c acc es out q (inr f) = inr (record { fault = f.fault; course = f.course; first = quiet_first a es q ∙ f.first })

module _ (program : Tree) (tables : Tables) (sight : Accumulators) (ruled : ReadsAtMainsEnd program) where
  module _ (left : ℕ) where
    abbrev pub blocks_run : Name → List Body → Env → Run ℤ
    blocks_run here [] env = pure (pos 0)
    blocks_run here (b ∷ bs) env = body program tables (elide program tables left) here env b >>= finish (blocks_run here bs)

    next_same : (here : Name) (bs : List Body) → ((env : Env) (acc : Accumulators) → blocks_left program tables left here bs env acc ≡ course_of (blocks_run here bs env) acc) → (next : Next) (acc : Accumulators) → past next (blocks_left program tables left here bs) acc ≡ course_of (finish (blocks_run here bs) next) acc
    next_same here bs h (On env) acc = h env acc
    next_same here bs h (Back v) acc = refl

    pub blocks_course : (here : Name) (bs : List Body) (env : Env) (acc : Accumulators) → blocks_left program tables left here bs env acc ≡ course_of (blocks_run here bs env) acc
    blocks_course here [] env acc = refl
    blocks_course here (b ∷ bs) env acc =
        let m = body program tables (elide program tables left) here env b in
        then_same (course_of m acc) (λ next. past next (blocks_left program tables left here bs)) (λ next. course_of (finish (blocks_run here bs) next)) (next_same here bs (λ env' acc'. blocks_course here bs env' acc'))
        ∙ sym (bind_course m (finish (blocks_run here bs)) acc)

    module _ (look : Look) where
      abbrev good : Elides IsOther program tables sight (elide program tables left) (runner program tables sight left look) (runner program tables sight left look)
      good = elide_fits IsOther program tables sight (others_quiet program tables sight ruled) left look

      pub blocks_fit : (n : Place) (here : Name) (bs : List Body) → Every IsQuiet bs → (env : Env) (c : ℕ) (acc : Accumulators) → Matches (blocks_run here bs env acc) (blocks_walk program tables sight (runner program tables sight left look) left n here bs env c None)
      blocks_fit n here [] q env c acc = (refl, refl)
      blocks_fit n here (b ∷ bs) q env c acc =
          let sub = runner program tables sight left look in
          let runs = good_runs _ _ doomed program tables sight left look in
          body_fits IsOther program tables sight (elide program tables left) sub good Anything anything left runs n here b q.0.0 q.0.1 env c (blocks_run here bs) (λ env' c' d'. blocks_walk program tables sight sub left n here bs env' c' d')
          ((λ env' c' acc' g. blocks_fit n here bs q.1 env' c' acc'), (λ env' c' d' e z. has_blocks (Every Opens) _ _ doomed half_opens program tables sight sub runs left n here bs env' c' d' e z)) acc tt

      abbrev R : Runner
      R = runner program tables sight left look

      abbrev iterations : Job → ℕ → ℕ → Run ℤ
      iterations job count i = plain IsOther program tables sight (elide program tables left) R job count i (pure (pos 0))

      turns_course : (job : Job) (count i : ℕ) (acc : Accumulators) → turns_left program tables left job count i acc ≡ course_of (iterations job count i) acc
      turns_course job count i acc =
          let m = elision.turns program tables (elide program tables left) job count i in
          sym (bind_course m (λ u. pure (pos 0)) acc) ∙ ap (λ r. course_of r acc) (plain_of IsOther program tables sight (elide program tables left) R job count i (pure (pos 0)))

      second_fit : (k : ℕ) (job : Job) → IsOther job.callee → (count i : ℕ) (n : Place) (c : ℕ) (acc : Accumulators) → Matches (iterations job count i acc) (second_walk program tables sight R left k job count i n c None)
      second_fit k job q count i n c acc =
          let y = loop_walk program tables sight R left k job count i (child_of n c) 1 None in
          let half = half_closed program tables sight R left (child_of n c) y in
          subst (λ m. Matches (m acc) (second_walk program tables sight R left k job count i n c None)) (plain_bind IsOther program tables sight (elide program tables left) R job count i (pure (pos 0)) (λ v. pure (pos 0)))
          (call_fits Anything anything (iterations job count i acc) half.events half.outcome (λ v. pure (pos 0)) acc (λ v. over n None (pos 0))
          (half_fits IsOther program tables sight (elide program tables left) R good left (iterations job count i acc) (child_of n c) y.events y.outcome (loop_fit IsOther program tables sight (elide program tables left) R good left k job q count i (child_of n c) 1 acc)) tt (λ v acc' g. (refl, refl)))

  module _ (look : Look) where
    -- an instance's rest
    pub todo_came : (fr : Frame) (todo : Todo) → IsQuietTodo todo → (env : Env) (c : ℕ) (acc : Accumulators) → (let r = todo_walk program tables sight look fr todo env c None in Came (todo_left program tables fr.left fr.here todo env acc) acc r.events r.outcome)
    todo_came fr (blocks bs) q env c acc =
        let r = blocks_walk program tables sight (runner program tables sight fr.left look) fr.left fr.instance fr.here bs env c None in
        subst (λ x. Came x acc r.events r.outcome) (sym (blocks_course fr.left fr.here bs env acc)) (came (blocks_run fr.left fr.here bs env acc) acc r.events r.outcome (blocks_fit fr.left look fr.instance fr.here bs q env c acc))
    todo_came fr (halves k job count i) q env c acc =
        let R = runner program tables sight fr.left look in
        let r = loop_walk program tables sight R fr.left k job count i fr.instance c None in
        subst (λ x. Came x acc r.events r.outcome) (sym (turns_course fr.left look job count i acc)) (came (iterations fr.left look job count i acc) acc r.events r.outcome (loop_fit IsOther program tables sight (elide program tables fr.left) R (good fr.left look) fr.left k job q count i fr.instance c acc))
    todo_came fr (second k job count i) q env c acc =
        let R = runner program tables sight fr.left look in
        let r = second_walk program tables sight R fr.left k job count i fr.instance c None in
        subst (λ x. Came x acc r.events r.outcome) (sym (turns_course fr.left look job count i acc)) (came (iterations fr.left look job count i acc) acc r.events r.outcome (second_fit fr.left look k job q count i fr.instance c acc))
    todo_came fr (turns job count i) q env c acc =
        let R = runner program tables sight fr.left look in
        let r = turns_walk program tables sight R job count i fr.instance c None in
        subst (λ x. Came x acc r.events r.outcome) (sym (turns_course fr.left look job count i acc)) (came (iterations fr.left look job count i acc) acc r.events r.outcome (turns_fit IsOther program tables sight (elide program tables fr.left) R (good fr.left look) job q count i fr.instance c acc))

    -- ---- the instances below

    -- it ends with the leaving of that instance
    pub record Left (c : Course ℤ) (acc : Accumulators) (n : Place) (es : Log) : Type 0 where
      pub done : Log
      pub outcome : Outcome
      pub is : es ≡ done ++ Leaves n outcome ∷ []
      pub came : Came c acc done outcome

    pub parent_same : (p : Parent) (g : Beside) (spawned : Bool) (v : ℤ) → g.doom ≡ None → todo_walk program tables sight look p.frame p.todo (put_into p.into g.env v) p.frame.next None ≡ parent_walk program tables sight look p spawned g (Ok v)
    parent_same p g true v d = ap (todo_walk program tables sight look p.frame p.todo (put_into p.into g.env v) p.frame.next) (sym d)
    parent_same p g false v d = ap (todo_walk program tables sight look p.frame p.todo (put_into p.into g.env v) p.frame.next) (sym d)

    pub parent_came : (p : Parent) (g : Beside) → IsQuietTodo p.todo → values_of p.frame.env ≡ g.env → g.doom ≡ None → (n : Place) (c : Course ℤ) (acc : Accumulators) (es : Log) (out : Outcome) → Came c acc es out
        → (let r = parent_walk program tables sight look p p.spawned g out in Came (then_on c (λ v. todo_left program tables p.frame.left p.frame.here p.todo (put_into p.into (values_of p.frame.env) v))) acc (es ++ Leaves n out ∷ r.events) r.outcome)
    parent_came p g q e d n c acc es out (inr f) =
        inr (record { fault = f.fault; course = then_fell c _ f.fault f.course; first = first_kept es (Leaves n out ∷ (parent_walk program tables sight look p p.spawned g out).events) f.fault f.first })
    parent_came p g q e d n c acc es out (inl w) =
        let F = λ (v : ℤ). todo_left program tables p.frame.left p.frame.here p.todo (put_into p.into (values_of p.frame.env) v) in
        let r = todo_walk program tables sight look p.frame p.todo (put_into p.into g.env w.value) p.frame.next None in
        let mid = after (forgotten es) acc in
        let walk = parent_same p g p.spawned w.value d ∙ ap (λ o. parent_walk program tables sight look p p.spawned g o) (sym w.outcome) in
        let more = todo_came p.frame p.todo q (put_into p.into g.env w.value) p.frame.next mid in
        subst (λ x. Came (then_on c F) acc (es ++ Leaves n out ∷ x.events) x.outcome) walk
        (goes_on n c acc es out w (F w.value mid) F refl r.events r.outcome (subst (λ E. Came (todo_left program tables p.frame.left p.frame.here p.todo (put_into p.into E w.value) mid) mid r.events r.outcome) (sym e) more))

    pub stack_left : (fr : Frame) (t : List Parent) (gs : List Beside) → UnderFits program [] t gs → AreQuietParents t → (c : Course ℤ) (acc : Accumulators) (es : Log) (out : Outcome) → Came c acc es out
        → Left (then_on c (parents_left program tables t)) acc (lowest fr t) ((es ++ Leaves fr.instance out ∷ []) ++ (below program tables sight look t gs out).events)
    stack_left fr [] [] h q c acc es out k = record { done = es; outcome = out; is = append-nil (es ++ Leaves fr.instance out ∷ []); came = subst (λ x. Came x acc es out) (sym (then_pure c)) k }
    stack_left fr [] (g ∷ gs) h q c acc es out k = absurd h
    stack_left fr (p ∷ t) [] h q c acc es out k = absurd h
    stack_left fr (p ∷ t) (g ∷ gs) h q c acc es out k =
        let f = h.0 in
        let r = parent_walk program tables sight look p p.spawned g out in
        let F = λ (v : ℤ). todo_left program tables p.frame.left p.frame.here p.todo (put_into p.into (values_of p.frame.env) v) in
        let more = parent_came p g q.0 (env_same p.frame.instance f.waiting 0 p.frame.env g.env f.slots) (doom_same p.frame.instance g.doom f.doomed) fr.instance c acc es out k in
        let l = stack_left p.frame t gs h.1 q.1 (then_on c F) acc (es ++ Leaves fr.instance out ∷ r.events) r.outcome more in
        record {
          done = l.done;
          outcome = l.outcome;
          is = simp append_assoc (simp append_assoc at l.is);
          came = subst (λ x. Came x acc l.done l.outcome) (then_assoc c F (parents_left program tables t)) l.came;
        }

    -- ---- a child, and the topmost instance

    pub child_came : (left : ℕ) (child : Child) → IsOtherChild child → (n : Place) (acc : Accumulators) → (let r = child_inside program tables sight look left child n in Came (child_left program tables left child acc) acc r.events r.outcome)
    child_came left (instance f vs) q n acc =
        let k = inner program look left f vs in
        let p = proc_of program f in
        let env = fresh p.names vs in
        let ops = opening program look left f vs n in
        let r = blocks_walk program tables sight (runner program tables sight left k) left n p.called (p.body ∷ []) env 1 None in
        let inside = subst (λ x. Came x acc r.events r.outcome) (sym (blocks_course left p.called (p.body ∷ []) env acc)) (came (blocks_run left p.called (p.body ∷ []) env acc) acc r.events r.outcome (blocks_fit left k n p.called (p.body ∷ []) (others_quiet program tables sight ruled f q, tt) env 1 acc)) in
        let still : acc ≡ after (forgotten ops) acc = sym (ap (λ l. after l acc) (forgotten_opening IsOther program tables sight look left f vs n p.memo)) in
        came_led ops (child_left program tables left (instance f vs) acc) acc r.events r.outcome (quiet_opening IsOther program tables sight look left f vs n p.memo) (subst (λ a. Came (child_left program tables left (instance f vs) acc) a r.events r.outcome) still inside)
    child_came left (half k job count i) q n acc =
        let R = runner program tables sight left look in
        let r = loop_walk program tables sight R left k job count i n 1 None in
        came_led (Begins n (depth_limit - left) ∷ []) (turns_left program tables left job count i acc) acc r.events r.outcome refl
        (subst (λ x. Came x acc r.events r.outcome) (sym (turns_course left look job count i acc)) (came (iterations left look job count i acc) acc r.events r.outcome (loop_fit IsOther program tables sight (elide program tables left) R (good left look) left k job q count i n 1 acc)))

    entering_same : (fr : Frame) (child : Child) → fr ≡ opened program fr.left child fr.instance → (acc : Accumulators) → child_left program tables fr.left child acc ≡ entering_left program tables fr child acc
    entering_same fr (instance f vs) e acc =
        let p = proc_of program f in
        let names : values_of fr.env ≡ fresh p.names vs = ap (λ x. values_of x.env) e ∙ seen_slot (fresh p.names vs) in
        ap₂ (λ here env. blocks_left program tables fr.left here (p.body ∷ []) env acc) (sym (ap (λ x. x.here) e)) (sym names)
    entering_same fr (half k job count i) e acc = refl

    over_came : (n : Place) (d : Option Fault) (v : ℤ) (acc : Accumulators) → d ≡ None → Came (Ok v, acc) acc (over n d v).events (over n d v).outcome
    over_came n None v acc e = inl (record { value = v; outcome = refl; course = refl; quiet = refl })
    over_came n (Some k) v acc e = absurd cc

    pub phase_came : (W : List ℕ) (fr : Frame) (ph : Phase) (g : Beside) → IsQuietPhase ph → IsOrderlyPhase program W fr ph → values_of fr.env ≡ g.env → g.doom ≡ None → (acc : Accumulators)
        → (let r = phase_walk program tables sight look fr ph g in Came (phase_left program tables fr ph acc) acc r.events r.outcome)
    phase_came W fr (entering child) g q o e d acc =
        let r = child_inside program tables sight look fr.left child fr.instance in
        subst (λ x. Came x acc r.events r.outcome) (entering_same fr child o acc) (child_came fr.left child q fr.instance acc)
    phase_came W fr (running todo) g q o e d acc =
        let more = todo_came fr todo q g.env fr.next acc in
        let at_doom = subst (λ k. let r = todo_walk program tables sight look fr todo g.env fr.next k in Came (todo_left program tables fr.left fr.here todo g.env acc) acc r.events r.outcome) (sym d) more in
        let r = todo_walk program tables sight look fr todo g.env fr.next g.doom in
        subst (λ E. Came (todo_left program tables fr.left fr.here todo E acc) acc r.events r.outcome) (sym e) at_doom
    phase_came W fr (spawning d' x child todo) g q o e d acc =
        let n = child_name fr in
        let one = child_inside program tables sight look d' child n in
        let begun = came_led (Spawns n ∷ []) (child_left program tables d' child acc) acc one.events one.outcome refl (child_came d' child q.0 n acc) in
        let p : Parent = record { frame = record { left = fr.left; instance = fr.instance; next = suc fr.next; here = fr.here; env = fr.env; recorded = fr.recorded }; spawned = true; into = x; todo = todo } in
        let r = parent_walk program tables sight look p true g one.outcome in
        let all = parent_came p g q.1 e d n (child_left program tables d' child acc) acc (Spawns n ∷ one.events) one.outcome begun in
        subst (λ l. Came (phase_left program tables fr (spawning d' x child todo) acc) acc l r.outcome) (ap (λ l. Spawns n ∷ l) (sym (append_assoc one.events (Leaves n one.outcome ∷ []) r.events))) all
    phase_came W fr (returning v) g q o e d acc = over_came fr.instance g.doom v acc d
    phase_came W fr (leaving v) g q o e d acc = inl (record { value = v; outcome = refl; course = refl; quiet = refl })
    phase_came W fr (broken k) g q o e d acc = inr (record { fault = k; course = refl; first = refl })
