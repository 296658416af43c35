-- What is left to do of a run whose first strand is at work, where all others are over.
use Rattle.std.proofs.Common.{Bool, true, false, ◌-◌, Some, List, [], ◌∷◌, ◌++◌, append_assoc, ℤ, pos, Ok, Err, ◌≡◌, inl, inr, refl, sym, ap, ◌∙◌, subst}
use Rattle.meaning.specs.Tree.{Tree}
use Rattle.meaning.specs.Tables.{Tables}
use Rattle.meaning.specs.Outcome.{Log, Event, Accumulators, Fault, Outcome, Place, Leaves, after}
use Rattle.meaning.specs.Statements.{identities, initial_values, put_into}
use Rattle.meaning.specs.Elision.{Finished, Faulted, from_scratch, main, start, elide, depth_limit}
use Rattle.meaning.specs.Records.{Revised}
use Rattle.meaning.specs.Trail.{run, env_after, doom_after}
use Rattle.meaning.specs.SmallStep.{root, Frame, Phase, entering, running, spawning, returning, leaving, broken, Parent, Continuation, place_of_continuation}
use Rattle.meaning.specs.Layers.{Notes, blank}
use Rattle.meaning.specs.Rest.{Course, then_on, values_of, todo_left, phase_left, parents_left, parents_of, answered}
use Rattle.meaning.specs.RestOfRun.{Hand, lowest, below, times_layers, piece_left, pieces_left, rest_of_run}
use Rattle.meaning.specs.Schedules.{Memory, Piece, place_of}
use Rattle.trail_theory.specs.Order.{Every}
use Rattle.trail_theory.specs.SerialRest.{parent_walk, below as below_walk}
use Rattle.trail_theory.specs.TaskFits.{EnvFits, DoomFits, UnderFits}
use Rattle.trail_theory.specs.ElisionBeside.{first_fault, forgotten}
use Rattle.trail_theory.specs.Right.{stretch, StartsAfter, LayersFit, Logged, RightAt, full_rest}
use Rattle.trail_theory.proofs.Order.{same_split}
use Rattle.trail_theory.proofs.Advances.{ordered_at}
use Rattle.trail_theory.proofs.FirstFaults.{quiet_first, inside_none, first_kept}
use Rattle.trail_theory.proofs.Ends.{worth_of}
use Rattle.trail_theory.proofs.MainElides.{begun, trail_from_scratch}
use Rattle.run_theory.specs.RightRuns.{front, Links, IsPushed}
use Rattle.run_theory.specs.OverRuns.{IsQuietPhase, AreQuietParents, IsQuietDeque, ReadsNoMore, AreOver}
use Rattle.strand_theory.specs.Ready.{IsReady}
use Rattle.run_theory.specs.Theorems.{FrontRunsAnswer}
use Rattle.run_theory.proofs.Courses.{then_pure, then_assoc}
use Rattle.strand_theory.proofs.Laws.{S, L}
use Rattle.run_theory.proofs.Steps.{FitPiece, FitAll}
use Rattle.run_theory.proofs.Paths.{begins_root}
use Rattle.run_theory.proofs.Telling.{broken_or}
use Rattle.strand_theory.proofs.Broken.{answer_is, as_faulted}
use Rattle.run_theory.proofs.Serial.{Came, came_led, env_same, doom_same, parent_came, stack_left, phase_came}
use Rattle.run_theory.proofs.Overs.{T, look, layers_worth, finish, Ends, ends_at, HasCome, left_worth, LeftIs, rest_from}

regroup : (a w x y : Log) (e f : Event) (z : Log) → a ++ e ∷ (((w ++ f ∷ []) ++ x) ++ y) ≡ z → (((a ++ e ∷ w) ++ f ∷ []) ++ x) ++ y ≡ z
regroup a w x y e f z h = simp append_assoc (simp append_assoc at h)

-- where there is no fault, the layers are claimed
pub layers_of : (program : Tree) (ph : Phase) (ls : List Notes) (ss : List Log) → ((k : Fault) → ph ≡ broken k → ⊥) → Logged program ph ls ss → LayersFit program ls ss
layers_of program (entering child) ls ss n h = h
layers_of program (running todo) ls ss n h = h
layers_of program (spawning d x child todo) ls ss n h = h
layers_of program (returning v) ls ss n h = h
layers_of program (leaving v) ls ss n h = h
layers_of program (broken k) ls ss n h = absurd (n k refl)

pub answered_fell : (program : Tree) (tables : Tables) (c : Course ℤ) (f : ℤ → Accumulators → Course ℤ) (k : Fault) → c.0 ≡ Err k → answered program tables (then_on c f) ≡ Faulted k
answered_fell program tables (Ok v, acc) f k e = absurd cc
answered_fell program tables (Err j, acc) f k e = let q : j ≡ k = cc in ap Faulted q

module _ (program : Revised) (tables : Tables) (memory : Memory) (ready : IsReady program tables memory) where
  -- what is left of some instances, and then of more
  pub split : (t u : List Parent) (c : Course ℤ) → then_on (then_on c (parents_left program.tree tables t)) (parents_left program.tree tables u) ≡ then_on c (parents_left program.tree tables (t ++ u))
  split [] u c = ap (λ x. then_on x (parents_left program.tree tables u)) (then_pure c)
  split (p ∷ t) u c =
      let F = λ (v : ℤ). todo_left program.tree tables p.frame.left p.frame.here p.todo (put_into p.into (values_of p.frame.env) v) in
      ap (λ x. then_on x (parents_left program.tree tables u)) (sym (then_assoc c F (parents_left program.tree tables t)))
      ∙ split t u (then_on c F)
      ∙ then_assoc c F (parents_left program.tree tables (t ++ u))

  -- the course so far stands where that instance is left
  pub record At (c : Course ℤ) (n : Place) : Type 0 where
    pub whole : Log
    pub later : Log
    pub outcome : Outcome
    pub is_trail : whole ++ Leaves n outcome ∷ later ≡ T program tables memory ready
    pub came : Came c (identities program.tree) whole outcome

  pub fault_answer : (W X : Log) (k : Fault) → W ++ X ≡ T program tables memory ready → first_fault W ≡ Some k → from_scratch program.tree tables ≡ Faulted k
  unfolding from_scratch
  fault_answer W X k e h =
      let P = program.tree in
      let o = elide P tables depth_limit start main [] (initial_values P) in
      as_faulted P tables (S program tables memory) (L program tables memory) (initial_values P) o k
      (answer_is P tables (S program tables memory) (L program tables memory) (begun P o) k (run P tables (S program tables memory) (depth_limit - 1) (look program tables memory ready) main [] []).outcome (trail_from_scratch P tables ready.rules.reads (look program tables memory ready)) (ap first_fault (sym e) ∙ first_kept W X k h))

  -- ---- the first strand

  strand_at : (ls : List Notes) (fr : Frame) (ph : Phase) (t : List Parent) → IsQuietPhase ph → AreQuietParents t → (h : RightAt program.tree tables (S program tables memory) (L program tables memory) root ls fr ph t) → LayersFit program.tree ls h.segments
      → At (then_on (phase_left program.tree tables fr ph (times_layers program.tree tables (identities program.tree) ls)) (parents_left program.tree tables t)) (lowest fr t)
  strand_at ls fr ph t qp qt h fit =
      let P = program.tree in
      let E = stretch h.segments in
      let f = h.task.frame_fits in
      let none : h.before ≡ [] = h.starts in
      let trail : E ++ (full_rest P tables (S program tables memory) (L program tables memory) fr ph t h.top h.others ++ h.beyond) ≡ T program tables memory ready = subst (λ b. b ++ (E ++ (full_rest P tables (S program tables memory) (L program tables memory) fr ph t h.top h.others ++ h.beyond)) ≡ T program tables memory ready) none h.is_trail in
      let acc = times_layers P tables (identities P) ls in
      let worth : acc ≡ after (forgotten E) (identities P) = layers_worth program tables memory ready [] ls h.segments _ trail fit ∙ sym (worth_of (blank P) E) in
      let env = env_same fr.instance f.waiting 0 fr.env h.top.env (subst (λ b. EnvFits b fr.instance f.waiting 0 fr.env h.top.env) none f.slots) in
      let doom = doom_same fr.instance h.top.doom (subst (λ b. DoomFits b fr.instance h.top.doom) none f.doomed) in
      let one = phase_came P tables (S program tables memory) ready.rules.reads (look program tables memory ready) f.waiting fr ph h.top qp f.orderly env doom acc in
      let l = stack_left P tables (S program tables memory) ready.rules.reads (look program tables memory ready) fr t h.others (subst (λ b. UnderFits P b t h.others) none h.task.under_fits) qt (phase_left P tables fr ph acc) acc _ _ one in
      let c = then_on (phase_left P tables fr ph acc) (parents_left P tables t) in
      let ended : E ++ ((l.done ++ Leaves (lowest fr t) l.outcome ∷ []) ++ h.beyond) ≡ T program tables memory ready = ap (λ x. E ++ (x ++ h.beyond)) (sym l.is) ∙ trail in
      record {
        whole = E ++ l.done;
        later = h.beyond;
        outcome = l.outcome;
        is_trail = simp append_assoc (simp append_assoc at ended);
        came = came_led E c (identities P) l.done l.outcome (inside_none root E h.inside) (subst (λ a. Came c a l.done l.outcome) worth l.came);
      }

  -- ---- the continuations behind it

  deque_at : (ks : List Continuation) (c : Course ℤ) (n e : Place) → At c n → Links n ks e → Every (IsPushed program.tree tables (S program tables memory) (L program tables memory) root) ks → IsQuietDeque ks → At (then_on c (parents_left program.tree tables (parents_of program.tree tables ks))) e
  deque_at [] c n e a l r q = subst (At (then_on c (parents_left program.tree tables []))) l (subst (λ x. At x n) (sym (then_pure c)) a)
  deque_at (k ∷ ks) c n e a l r q =
      let P = program.tree in
      let h = r.0.1 in
      let p : Parent = record { frame = k.parent.frame; spawned = true; into = k.parent.into; todo = k.parent.todo } in
      let none : h.before ≡ [] = subst (λ m. StartsAfter m h.before) r.0.0 h.starts in
      let o = h.outcome in
      let w = parent_walk P tables (S program tables memory) (look program tables memory ready) p true h.top o in
      let after_it = full_rest P tables (S program tables memory) (L program tables memory) k.parent.frame (running k.parent.todo) k.under (record { env = env_after h.top.env k.parent.into o; doom = doom_after h.top.doom o }) h.others in
      let tail = after_it ++ h.beyond in
      let named : n ≡ place_of_continuation k = l.0 in
      let f : h.between ++ Leaves n o ∷ tail ≡ T program tables memory ready = subst (λ x. h.between ++ Leaves x o ∷ tail ≡ T program tables memory ready) (sym named) (subst (λ b. b ++ (h.between ++ Leaves (place_of_continuation k) o ∷ tail) ≡ T program tables memory ready) none h.is_trail) in
      let z = same_split n a.whole a.later h.between tail a.outcome o (ordered_at P tables (S program tables memory) (L program tables memory) _ a.is_trail) (ordered_at P tables (S program tables memory) (L program tables memory) _ f) (a.is_trail ∙ sym f) in
      let so_far : Came c (identities P) h.between o = subst (λ x. Came c (identities P) h.between x) z.value (subst (λ x. Came c (identities P) x a.outcome) z.sooner a.came) in
      let env = env_same k.parent.frame.instance h.waiting 0 k.parent.frame.env h.top.env (subst (λ b. EnvFits b k.parent.frame.instance h.waiting 0 k.parent.frame.env h.top.env) none h.slots) in
      let doom = doom_same k.parent.frame.instance h.top.doom (subst (λ b. DoomFits b k.parent.frame.instance h.top.doom) none h.doomed) in
      let F = λ (v : ℤ). todo_left P tables p.frame.left p.frame.here p.todo (put_into p.into (values_of p.frame.env) v) in
      let c1 = then_on c F in
      let one : Came c1 (identities P) (h.between ++ Leaves n o ∷ w.events) w.outcome = parent_came P tables (S program tables memory) ready.rules.reads (look program tables memory ready) p h.top q.0.0 env doom n c (identities P) h.between o so_far in
      let m = stack_left P tables (S program tables memory) ready.rules.reads (look program tables memory ready) k.parent.frame k.under h.others (subst (λ b. UnderFits P b k.under h.others) none h.under_fits) q.0.1 c1 (identities P) (h.between ++ Leaves n o ∷ w.events) w.outcome one in
      let c2 = then_on c1 (parents_left P tables k.under) in
      let whole : (((h.between ++ Leaves n o ∷ w.events) ++ Leaves k.parent.frame.instance w.outcome ∷ []) ++ (below_walk P tables (S program tables memory) (look program tables memory ready) k.under h.others w.outcome).events) ++ h.beyond ≡ T program tables memory ready = regroup h.between w.events (below_walk P tables (S program tables memory) (look program tables memory ready) k.under h.others w.outcome).events h.beyond (Leaves n o) (Leaves k.parent.frame.instance w.outcome) (T program tables memory ready) f in
      let ended : (m.done ++ Leaves (lowest k.parent.frame k.under) m.outcome ∷ []) ++ h.beyond ≡ T program tables memory ready = ap (λ x. x ++ h.beyond) (sym m.is) ∙ whole in
      let here : At c2 (lowest k.parent.frame k.under) = record { whole = m.done; later = h.beyond; outcome = m.outcome; is_trail = sym (append_assoc m.done (Leaves (lowest k.parent.frame k.under) m.outcome ∷ []) h.beyond) ∙ ended; came = m.came } in
      let next = deque_at ks c2 (lowest k.parent.frame k.under) e here l.1 r.1 q.1 in
      subst (λ x. At x e) (split k.under (parents_of P tables ks) c1 ∙ then_assoc c F (parents_left P tables (k.under ++ parents_of P tables ks))) next

  -- ---- the run

  piece_at : (found later : List Bool) (p : Piece) (e : Place) → FitPiece program tables memory true p found later e → ReadsNoMore p → ((k : Fault) → p.strand.phase ≡ broken k → ⊥) → At (piece_left program.tree tables p [] (identities program.tree)) e
  piece_at found later p e i q sound =
      let P = program.tree in
      let s = p.strand in
      let ks = parents_of P tables p.deque in
      let m : s.start ≡ root = begins_root s.start i.begins in
      elim i.fits [
        | inr c ↦ absurd (sound c.fault c.phase)
        | inl w ↦
            let h = subst (λ x. RightAt P tables (S program tables memory) (L program tables memory) x s.layers s.frame s.phase s.under) m w.right in
            let a = strand_at s.layers s.frame s.phase s.under q.phase q.under h (layers_of P s.phase s.layers h.segments sound h.logged) in
            let d = subst (λ x. Every (IsPushed P tables (S program tables memory) (L program tables memory) x) p.deque) m i.deque in
            subst (λ c. At c e) (split s.under ks (phase_left P tables s.frame s.phase (times_layers P tables (identities P) s.layers))) (deque_at p.deque _ (lowest s.frame s.under) e a w.links d q.deque)
      ]

  rest_behind : (p : Piece) (ps : List Piece) (later : List Bool) → FitAll program tables memory false ps later → AreOver ps → (a : At (piece_left program.tree tables p [] (identities program.tree)) (front ps)) → LeftIs program tables memory ready (p ∷ ps) [] (pos 0) (identities program.tree)
  rest_behind p ps later i o a = by ps i o a.is_trail a.came
    where
      by : (ps : List Piece) → FitAll program tables memory false ps later → AreOver ps → a.whole ++ Leaves (front ps) a.outcome ∷ a.later ≡ T program tables memory ready → Came (piece_left program.tree tables p [] (identities program.tree)) (identities program.tree) a.whole a.outcome → LeftIs program tables memory ready (p ∷ ps) [] (pos 0) (identities program.tree)
      by ps i o e (inr f) =
          answered_fell program.tree tables (piece_left program.tree tables p [] (identities program.tree)) (λ w. pieces_left program.tree tables ps ((lowest p.strand.frame (below program.tree tables p), w) ∷ []) w) f.fault f.course
          ∙ sym (fault_answer a.whole (Leaves (front ps) a.outcome ∷ a.later) f.fault e f.first)
      by [] i o e (inl w) =
          let f : a.whole ++ Leaves [] (Ok w.value) ∷ a.later ≡ T program tables memory ready = subst (λ x. a.whole ++ Leaves [] x ∷ a.later ≡ T program tables memory ready) w.outcome e in
          ap (λ c. answered program.tree tables (then_on c (λ v. pieces_left program.tree tables [] ((lowest p.strand.frame (below program.tree tables p), v) ∷ []) v))) w.course
          ∙ ap (Finished w.value) (worth_of (blank program.tree) a.whole)
          ∙ sym (finish program tables memory ready a.whole a.later w.value f)
      by (r ∷ ps) i o e (inl w) =
          let D = a.whole ++ Leaves (place_of r) (Ok w.value) ∷ [] in
          let hand : Hand = (lowest p.strand.frame (below program.tree tables p), w.value) ∷ [] in
          let f : a.whole ++ Leaves (place_of r) (Ok w.value) ∷ a.later ≡ T program tables memory ready = subst (λ x. a.whole ++ Leaves (place_of r) x ∷ a.later ≡ T program tables memory ready) w.outcome e in
          let d : HasCome program tables memory ready D r.strand.start = record { later = a.later; is_trail = append_assoc a.whole (Leaves (place_of r) (Ok w.value) ∷ []) a.later ∙ f; ends = ends_at r.strand.start a.whole (place_of r) (Ok w.value) i.1.begins refl; quiet = quiet_first a.whole (Leaves (place_of r) (Ok w.value) ∷ []) w.quiet } in
          ap (λ c. answered program.tree tables (then_on c (λ v. pieces_left program.tree tables (r ∷ ps) ((lowest p.strand.frame (below program.tree tables p), v) ∷ []) v))) w.course
          ∙ ap (λ acc. answered program.tree tables (pieces_left program.tree tables (r ∷ ps) hand w.value acc)) (worth_of (blank program.tree) a.whole ∙ sym (left_worth program tables memory ready a.whole (place_of r) w.value))
          ∙ rest_from program tables memory ready ps r false later D hand w.value i d o

  front_from : (p : Piece) (ps : List Piece) → FitAll program tables memory true (p ∷ ps) [] → ReadsNoMore p → AreOver ps → LeftIs program tables memory ready (p ∷ ps) [] (pos 0) (identities program.tree)
  front_from p ps i q o =
      elim (broken_or p.strand.phase) [
        | inl k ↦ rest_from program tables memory ready ps p true [] [] [] (pos 0) i (record { later = T program tables memory ready; is_trail = refl; ends = subst (λ m. Ends m []) (sym (begins_root p.strand.start i.1.begins)) refl; quiet = refl }) (inl k)
        | inr sound ↦ rest_behind p ps i.0 i.2 o (piece_at [] i.0 p (front ps) i.1 q sound)
      ]

  pub front_rest : FrontRunsAnswer program tables memory
  unfolding rest_of_run
  front_rest s p ps h e q o =
      let i : FitAll program tables memory true (p ∷ ps) [] = subst (λ l. FitAll program tables memory true l []) e h in
      ap (λ l. answered program.tree tables (pieces_left program.tree tables l [] (pos 0) (identities program.tree))) e
      ∙ front_from p ps i q o
