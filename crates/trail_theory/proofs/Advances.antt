-- Each step of a strand keeps it right.
use Rattle.std.proofs.Common.{ℕ, suc, ◌-◌, List, [], ◌∷◌, ◌++◌, Option, None, ◌≡◌, inl, inr, refl, sym, ap, ◌∙◌, subst, arith, append_assoc, append-nil, Bool, true, false}
use Rattle.meaning.specs.Tree.{Tree}
use Rattle.meaning.specs.Tables.{Tables}
use Rattle.meaning.specs.Outcome.{Log, Accumulators, Event, Place, Reads, Enters, Updates, Reuses, Begins, Syncs, Leaves, Faults, Marks, Spawns}
use Rattle.meaning.specs.Trail.{child_of, env_after, doom_after, trail_at}
use Rattle.meaning.specs.SmallStep.{Start, root, behind, Frame, Todo, Child, Phase, entering, running, spawning, returning, leaving, broken, Parent, child_name, awaiting, opened, env_of, Layers, noting, opening_one, closing_one, Step, moved, taken, paused, Lookup, look_of, micro}
use Rattle.trail_theory.specs.SerialRest.{Beside, child_inside, todo_walk, below}
use Rattle.meaning.specs.Layers.{SameNotes, Notes, noted, blank, notes, notes_of, multiplied, noted_top, layers_by, closed_top, ahead_of_entry, from_entry, take_top, total, bottom}
use Rattle.meaning.specs.LayeredStrand.{LayeredStrand, advanced, advance_with, advance, inlined, detached, continuation}
use Rattle.trail_theory.specs.Order.{In, Every, LeavesInOrder}
use Rattle.trail_theory.specs.Waiting.{UsesNoWaitingName, with_name}
use Rattle.trail_theory.specs.TaskFits.{sound, SyncInside}
use Rattle.trail_theory.specs.Right.{StartsAfter, stretch, LayersFit, Logged, full_rest, RightAt, IsRight, IsRightContinuation, RecordedAreSound, StretchesMultiply, Layered, Sees}
use Rattle.trail_theory.proofs.Places.{IsEarly}
use Rattle.trail_theory.proofs.KeepsStep.{Keeps}
use Rattle.trail_theory.proofs.Places.{in_append, every_append, order_strict, order_one_way, child_above}
use Rattle.trail_theory.proofs.Order.{ordered_across, trail_ordered}
use Rattle.trail_theory.proofs.SameNotes.{same_refl, same_sym, noted_same, multiplied_same}
use Rattle.trail_theory.proofs.Slots.{new_fits, env_wider, wider_name}
use Rattle.trail_theory.specs.ReadsAtEnd.{ReadsAtMainsEnd}
use Rattle.trail_theory.specs.MainReads.{synced_after, UnderReads, TaskReads}
use Rattle.trail_theory.proofs.Synced.{IsElsewhere, no_spawns, no_syncs, still_unsynced, unsynced_now, not_main, child_elsewhere}
use Rattle.trail_theory.proofs.MainReads.{StepReads, under_on, under_spawn, spawned_todo, other_child, micro_reads}
use Rattle.trail_theory.proofs.Stepping.{noted_append, micro_kept}
use Rattle.meaning.specs.Elision.{depth_limit}

regroup : (a b c d : Log) → ((a ++ b) ++ c) ++ d ≡ a ++ ((b ++ c) ++ d)
regroup a b c d = simp append_assoc

spawn_regroup : (x s y z : Log) (q : Place) → x ++ ((s ++ Spawns q ∷ []) ++ (y ++ z)) ≡ x ++ (s ++ ((Spawns q ∷ y) ++ z))
spawn_regroup x s y z q = simp append_assoc

child_last : (x s b : Log) (q : Place) (e : Event) → x ++ ((s ++ Spawns q ∷ b) ++ e ∷ []) ≡ ((x ++ s) ++ Spawns q ∷ []) ++ (b ++ e ∷ [])
child_last x s b q e = simp append_assoc

pub early_of : (m : Start) (B C : Log) → LeavesInOrder (B ++ C) → StartsAfter m B → IsEarly m B
early_of root B C o s = λ c v i. let j : In (Leaves c v) [] = rw s at i in j
early_of (behind m k) B C o s = λ c v i l.
    let p = child_of m k in
    let o' : LeavesInOrder (s.sooner ++ (Leaves p s.value ∷ [] ++ C)) = rw (← append_assoc s.sooner (Leaves p s.value ∷ []) C) (rw s.is at o) in
    let j : In (Leaves c v) (s.sooner ++ Leaves p s.value ∷ []) = rw s.is at i in
    elim (in_append (Leaves c v) s.sooner (Leaves p s.value ∷ []) j) [
      | inl a ↦ order_one_way p c l (ordered_across s.sooner (Leaves p s.value ∷ C) c v o' a p s.value (inl refl))
      | inr (inl e) ↦ order_strict p (let q : c ≡ p = cc in rw q at l)
      | inr (inr z) ↦ z
    ]

module _ (program : Tree) (tables : Tables) (sight : Accumulators) (lookup : Lookup) where
  abbrev T : Log
  T = trail_at program tables sight (look_of lookup)

  abbrev RightNow : Start → List Notes → Frame → Phase → List Parent → Type 0
  RightNow m ls fr ph t = RightAt program tables sight lookup m ls fr ph t

  pub ordered_at : (es : Log) → es ≡ T → LeavesInOrder es
  ordered_at es e = rw e (trail_ordered program tables sight (look_of lookup))

  abbrev pub merged_top : List Log → List Log
  merged_top [] = []
  merged_top (a ∷ []) = a ∷ []
  merged_top (a ∷ b ∷ ss) = (b ++ a) ∷ ss

  abbrev pub grown : List Log → Log → List Log
  grown [] es = []
  grown (s ∷ ss) es = (s ++ es) ∷ ss

  pub any_logged : (ph : Phase) (ls : List Notes) (ss : List Log) → LayersFit program ls ss → Logged program ph ls ss
  any_logged (entering child) ls ss h = h
  any_logged (running todo) ls ss h = h
  any_logged (spawning d x child todo) ls ss h = h
  any_logged (returning v) ls ss h = h
  any_logged (leaving v) ls ss h = h
  any_logged (broken k) ls ss h = tt

  pub grown_fits : (ls : List Notes) (ss : List Log) (es : Log) → LayersFit program ls ss → LayersFit program (noted_top ls es) (grown ss es)
  grown_fits [] [] es h = tt
  grown_fits [] (s ∷ ss) es h = h
  grown_fits (l ∷ ls) [] es h = h
  grown_fits (l ∷ ls) (s ∷ ss) es h = (subst (λ n. SameNotes (noted l es) n) (sym (noted_append (blank program) s es)) (noted_same l (notes program s) es h.0), h.1)

  pub stretch_grown : (ss : List Log) (es : Log) → Layered ss → stretch (grown ss es) ≡ stretch ss ++ es
  stretch_grown [] es h = absurd h
  stretch_grown (s ∷ ss) es h = sym (append_assoc (stretch ss) s es)

  pub has_grown : (ss : List Log) (es : Log) → Layered ss → Layered (grown ss es)
  has_grown [] es h = h
  has_grown (s ∷ ss) es h = tt

  -- the segments after a step's events
  abbrev pub segments_by : Layers → List Log → Log → List Log
  segments_by noting ss es = grown ss es
  segments_by opening_one ss es = from_entry es ∷ grown ss (ahead_of_entry es)
  segments_by closing_one ss es = merged_top (grown ss es)

  pub parted : (es : Log) → ahead_of_entry es ++ from_entry es ≡ es
  parted [] = refl
  parted (Begins n depth ∷ es) = refl
  parted (Reads r ∷ es) = ap (λ w. Reads r ∷ w) (parted es)
  parted (Enters f args depth ∷ es) = ap (λ w. Enters f args depth ∷ w) (parted es)
  parted (Updates n kind w ∷ es) = ap (λ v. Updates n kind w ∷ v) (parted es)
  parted (Reuses f args ws ∷ es) = ap (λ w. Reuses f args ws ∷ w) (parted es)
  parted (Syncs n ∷ es) = ap (λ w. Syncs n ∷ w) (parted es)
  parted (Leaves n o ∷ es) = ap (λ w. Leaves n o ∷ w) (parted es)
  parted (Marks f args b ∷ es) = ap (λ w. Marks f args b ∷ w) (parted es)
  parted (Faults k ∷ es) = ap (λ w. Faults k ∷ w) (parted es)
  parted (Spawns n ∷ es) = ap (λ w. Spawns n ∷ w) (parted es)

  merged_stretch : (ss : List Log) → stretch (merged_top ss) ≡ stretch ss
  merged_stretch [] = refl
  merged_stretch (a ∷ []) = refl
  merged_stretch (a ∷ b ∷ ss) = sym (append_assoc (stretch ss) b a)

  pub stretch_by : (l : Layers) (ss : List Log) (es : Log) → Layered ss → stretch (segments_by l ss es) ≡ stretch ss ++ es
  stretch_by noting ss es h = stretch_grown ss es h
  stretch_by opening_one ss es h = ap (λ w. w ++ from_entry es) (stretch_grown ss (ahead_of_entry es) h) ∙ append_assoc (stretch ss) (ahead_of_entry es) (from_entry es) ∙ ap (λ w. stretch ss ++ w) (parted es)
  stretch_by closing_one ss es h = merged_stretch (grown ss es) ∙ stretch_grown ss es h

  has_merged : (ss : List Log) → Layered ss → Layered (merged_top ss)
  has_merged [] h = h
  has_merged (a ∷ []) h = tt
  has_merged (a ∷ b ∷ ss) h = tt

  pub has_by : (l : Layers) (ss : List Log) (es : Log) → Layered ss → Layered (segments_by l ss es)
  has_by noting ss es h = has_grown ss es h
  has_by opening_one ss es h = tt
  has_by closing_one ss es h = has_merged (grown ss es) (has_grown ss es h)

  closed_fit : StretchesMultiply program tables sight lookup → (x y : Log) (ls : List Notes) (ss : List Log) → x ++ (stretch ss ++ y) ≡ T → LayersFit program ls ss → LayersFit program (closed_top program ls) (merged_top ss)
  closed_fit law x y [] [] e h = tt
  closed_fit law x y [] (s ∷ ss) e h = absurd h
  closed_fit law x y (l ∷ ls) [] e h = absurd h
  closed_fit law x y (l ∷ []) (s ∷ []) e h = h
  closed_fit law x y (l ∷ []) (s ∷ s' ∷ ss) e h = absurd h.1
  closed_fit law x y (l ∷ l' ∷ ls) (s ∷ []) e h = absurd h.1
  closed_fit law x y (l ∷ l' ∷ ls) (s ∷ s' ∷ ss) e h =
      (subst (λ n. SameNotes (multiplied program l' l) n) (law (x ++ stretch ss) s' s y (simp append_assoc (simp append_assoc at e))) (multiplied_same program l' (notes program s') l (notes program s) h.1.0 h.0), h.1.1)

  pub layers_fit : StretchesMultiply program tables sight lookup → (l : Layers) (x y es : Log) (ls : List Notes) (ss : List Log) → Layered ss → x ++ (stretch ss ++ (es ++ y)) ≡ T → LayersFit program ls ss → LayersFit program (layers_by program l ls es) (segments_by l ss es)
  layers_fit law noting x y es ls ss has e h = grown_fits ls ss es h
  layers_fit law opening_one x y es ls ss has e h = (same_refl (notes program (from_entry es)), grown_fits ls ss (ahead_of_entry es) h)
  layers_fit law closing_one x y es ls ss has e h = closed_fit law x y (noted_top ls es) (grown ss es) (ap (λ w. x ++ (w ++ y)) (stretch_grown ss es has) ∙ simp append_assoc (simp append_assoc at e)) (grown_fits ls ss es h)

  pub taken_fits : StretchesMultiply program tables sight lookup → (k : Notes) (x y es : Log) (ls : List Notes) (ss : List Log) → SameNotes (notes program es) k → x ++ (stretch (grown ss es) ++ y) ≡ T → LayersFit program ls ss → LayersFit program (take_top program k ls) (grown ss es)
  taken_fits law k x y es [] [] q e h = tt
  taken_fits law k x y es [] (s ∷ ss) q e h = h
  taken_fits law k x y es (l ∷ ls) [] q e h = h
  taken_fits law k x y es (l ∷ ls) (s ∷ ss) q e h = (subst (λ n. SameNotes (multiplied program l k) n) (law (x ++ stretch ss) s es y (simp append_assoc (simp append_assoc at e))) (multiplied_same program l (notes program s) k (notes program es) h.0 (same_sym (notes program es) k q)), h.1)

  pub early_at : (m : Start) (ls : List Notes) (fr : Frame) (ph : Phase) (t : List Parent) (h : RightNow m ls fr ph t) → IsEarly m h.before
  early_at m ls fr ph t h = early_of m h.before _ (ordered_at _ h.is_trail) h.starts

  -- small steps
  unfoldable pub step_right : StretchesMultiply program tables sight lookup → (m : Start) (ls : List Notes) (fr : Frame) (ph : Phase) (t : List Parent) (h : RightNow m ls fr ph t) → LayersFit program ls h.segments → (st : Step)
      → (ReadsAtMainsEnd program → StepReads (h.before ++ stretch h.segments) st) → Keeps program tables sight lookup h.before m (full_rest program tables sight lookup fr ph t h.top h.others) st → IsRight program tables sight lookup (advanced program (record { start = m; layers = ls; frame = fr; phase = ph; under = t }) st)
  step_right law m ls fr ph t h fits (moved l evs fr' ph' t') reads k =
      let ss = segments_by l h.segments evs in
      let X = full_rest program tables sight lookup fr' ph' t' k.top k.others in
      let q : h.before ++ (stretch h.segments ++ ((evs ++ X) ++ h.beyond)) ≡ T = rw (← k.goes_on) h.is_trail in
      let w : stretch ss ≡ stretch h.segments ++ evs = stretch_by l h.segments evs h.layered in
      record {
        before = h.before;
        segments = ss;
        beyond = h.beyond;
        top = k.top;
        others = k.others;
        is_trail = ap (λ w. h.before ++ (w ++ (X ++ h.beyond))) w ∙ simp append_assoc (simp append_assoc at q);
        starts = h.starts;
        layered = has_by l h.segments evs h.layered;
        logged = any_logged ph' _ _ (layers_fit law l h.before (X ++ h.beyond) evs ls h.segments h.layered (simp append_assoc (simp append_assoc at q)) fits);
        task = k.task;
        inside = rw w (every_append (SyncInside m) (stretch h.segments) evs h.inside k.inside);
        reads = λ ruled. subst (λ w. TaskReads w fr'.instance ph' t') (append_assoc h.before (stretch h.segments) evs ∙ ap (λ w. h.before ++ w) (sym w)) (reads ruled);
      }
  step_right law m ls fr ph t h fits (taken evs r fr' ph' t') reads k =
      let s1 = grown h.segments evs in
      let ss = grown s1 k.events in
      let X = full_rest program tables sight lookup fr' ph' t' k.kept.top k.kept.others in
      let w : stretch ss ≡ stretch h.segments ++ (evs ++ k.events) = stretch_grown s1 k.events (has_grown h.segments evs h.layered) ∙ ap (λ w. w ++ k.events) (stretch_grown h.segments evs h.layered) ∙ append_assoc (stretch h.segments) evs k.events in
      let e : h.before ++ (stretch ss ++ (X ++ h.beyond)) ≡ T = ap (λ w. h.before ++ (w ++ (X ++ h.beyond))) w ∙ (let q : h.before ++ (stretch h.segments ++ (((evs ++ k.events) ++ X) ++ h.beyond)) ≡ T = rw (← k.kept.goes_on) h.is_trail in simp append_assoc (simp append_assoc at q)) in
      record {
        before = h.before;
        segments = ss;
        beyond = h.beyond;
        top = k.kept.top;
        others = k.kept.others;
        is_trail = e;
        starts = h.starts;
        layered = has_grown s1 k.events (has_grown h.segments evs h.layered);
        logged = any_logged ph' _ _ (taken_fits law (notes_of r (depth_limit - fr'.left)) h.before (X ++ h.beyond) k.events (noted_top ls evs) s1 k.noted e (grown_fits ls h.segments evs fits));
        task = k.kept.task;
        inside = rw w (every_append (SyncInside m) (stretch h.segments) (evs ++ k.events) h.inside k.kept.inside);
        reads = λ ruled. subst (λ w. TaskReads w fr'.instance ph' t') (append_assoc h.before (stretch h.segments) (evs ++ k.events) ∙ ap (λ w. h.before ++ w) (sym w)) (reads ruled k.events k.elsewhere);
      }
  step_right law m ls fr ph t h fits (paused p) reads k = h

  module _ (law : StretchesMultiply program tables sight lookup) (checked : UsesNoWaitingName program) (is_sound : RecordedAreSound program tables sight lookup) (kit : Bool) where
    by_step : (acc : Accumulators) (m : Start) (ls : List Notes) (fr : Frame) (ph : Phase) (t : List Parent) (h : RightNow m ls fr ph t) → LayersFit program ls h.segments → Sees acc sight ph → IsRight program tables sight lookup (advance_with program tables lookup kit acc (record { start = m; layers = ls; frame = fr; phase = ph; under = t }))
    by_step acc m ls fr ph t h fits sees =
        step_right law m ls fr ph t h fits (micro program tables lookup kit acc m fr ph t) (λ ruled. micro_reads program tables lookup ruled kit acc (h.before ++ stretch h.segments) m fr ph t (h.reads ruled)) (micro_kept program tables sight lookup checked is_sound kit acc h.before m (early_at m ls fr ph t h) fr ph t h.top h.others h.task sees)

    advance_at : (acc : Accumulators) (m : Start) (ls : List Notes) (fr : Frame) (ph : Phase) (t : List Parent) → RightNow m ls fr ph t → Sees acc sight ph → IsRight program tables sight lookup (advance_with program tables lookup kit acc (record { start = m; layers = ls; frame = fr; phase = ph; under = t }))
    advance_at acc m ls fr (entering child) t h sees = by_step acc m ls fr (entering child) t h h.logged sees
    advance_at acc m ls fr (running todo) t h sees = by_step acc m ls fr (running todo) t h h.logged sees
    advance_at acc m ls fr (spawning d x child todo) t h sees = h
    advance_at acc m ls fr (returning v) t h sees = by_step acc m ls fr (returning v) t h h.logged sees
    advance_at acc m ls fr (leaving v) t h sees = by_step acc m ls fr (leaving v) t h h.logged sees
    advance_at acc m ls fr (broken k) t h sees = h

    pub advance_by : (acc : Accumulators) (s : LayeredStrand) → IsRight program tables sight lookup s → Sees acc sight s.phase → IsRight program tables sight lookup (advance_with program tables lookup kit acc s)
    advance_by acc s h sees = advance_at acc s.start s.layers s.frame s.phase s.under h sees

    pub advance_right : (s : LayeredStrand) → IsRight program tables sight lookup s → Sees (bottom s.layers) sight s.phase → IsRight program tables sight lookup (advance program tables lookup kit s)
    advance_right s h sees = advance_by (bottom s.layers) s h sees

  -- the product of the layers has noted what they have noted together
  pub total_fits : StretchesMultiply program tables sight lookup → (x y : Log) (ls : List Notes) (ss : List Log) → Layered ss → x ++ (stretch ss ++ y) ≡ T → LayersFit program ls ss → SameNotes (total program ls) (notes program (stretch ss))
  total_fits law x y [] [] l e h = absurd l
  total_fits law x y [] (s ∷ ss) l e h = absurd h
  total_fits law x y (a ∷ ls) [] l e h = absurd h
  total_fits law x y (a ∷ []) (s ∷ []) l e h = h.0
  total_fits law x y (a ∷ []) (s ∷ s' ∷ ss) l e h = absurd h.1
  total_fits law x y (a ∷ b ∷ ls) (s ∷ []) l e h = absurd h.1
  total_fits law x y (a ∷ b ∷ ls) (s ∷ s' ∷ ss) l e h =
      let under = stretch (s' ∷ ss) in
      let e' : x ++ (under ++ (s ++ y)) ≡ T = ap (λ w. x ++ w) (sym (append_assoc under s y)) ∙ e in
      subst (λ n. SameNotes (multiplied program (total program (b ∷ ls)) a) n) (law x under s y e') (multiplied_same program (total program (b ∷ ls)) (notes program under) a (notes program s) (total_fits law x (s ++ y) (b ∷ ls) (s' ∷ ss) tt e' h.1) h.0)

  -- at a spawn the child stands on the stack
  pub child_goes : (fr : Frame) (d : ℕ) (x : Option ℕ) (child : Child) (todo : Todo) (t : List Parent) (g : Beside) (gs : List Beside)
      → full_rest program tables sight lookup fr (spawning d x child todo) t g gs ≡ Spawns (child_name fr) ∷ full_rest program tables sight lookup (opened program d child (child_name fr)) (entering child) (awaiting fr true x todo ∷ t) (record { env = env_of program child; doom = None }) (g ∷ gs)
  child_goes fr d x child todo t g gs =
      let q = child_name fr in
      let c = child_inside program tables sight (look_of lookup) d child q in
      let r = todo_walk program tables sight (look_of lookup) fr todo (env_after g.env x c.outcome) (suc fr.next) (doom_after g.doom c.outcome) in
      ap (λ l. Spawns q ∷ l) (regroup (c.events ++ Leaves q c.outcome ∷ []) r.events (Leaves fr.instance r.outcome ∷ []) (below program tables sight (look_of lookup) t gs r.outcome).events)

  -- the spawn's event stands at the end of the top layer's stretch, and no layer notes it
  pub spawn_fits : (ls : List Notes) (ss : List Log) (q : Place) → LayersFit program ls ss → LayersFit program ls (grown ss (Spawns q ∷ []))
  spawn_fits [] ss q h = grown_fits [] ss (Spawns q ∷ []) h
  spawn_fits (l ∷ ls) ss q h = grown_fits (l ∷ ls) ss (Spawns q ∷ []) h

  pub spawn_passes : (x y z : Log) (ss : List Log) (q : Place) → Layered ss → x ++ (stretch ss ++ ((Spawns q ∷ y) ++ z)) ≡ T → x ++ (stretch (grown ss (Spawns q ∷ [])) ++ (y ++ z)) ≡ T
  spawn_passes x y z ss q l e = rw (stretch_grown ss (Spawns q ∷ []) l) (spawn_regroup x (stretch ss) y z q ∙ e)

  -- the spawn's event is the last one so far
  pub spawn_last : (x : Log) (ss : List Log) (q : Place) → Layered ss → (x ++ stretch ss) ++ Spawns q ∷ [] ≡ x ++ stretch (grown ss (Spawns q ∷ []))
  spawn_last x ss q l = append_assoc x (stretch ss) (Spawns q ∷ []) ∙ ap (λ w. x ++ w) (sym (stretch_grown ss (Spawns q ∷ []) l))

  -- the child as a call
  unfoldable pub inline_right : (m : Start) (ls : List Notes) (fr : Frame) (t : List Parent) (d : ℕ) (x : Option ℕ) (child : Child) (todo : Todo) → RightNow m ls fr (spawning d x child todo) t
      → IsRight program tables sight lookup (inlined program (record { start = m; layers = ls; frame = fr; phase = spawning d x child todo; under = t }) d x child todo)
  inline_right m ls fr t d x child todo h =
      let F = h.task.frame_fits in
      let q = child_name fr in
      let e = subst (λ w. h.before ++ (stretch h.segments ++ (w ++ h.beyond)) ≡ T) (child_goes fr d x child todo t h.top h.others) h.is_trail in
      record {
        before = h.before;
        segments = grown h.segments (Spawns q ∷ []);
        beyond = h.beyond;
        top = record { env = env_of program child; doom = None };
        others = h.top ∷ h.others;
        is_trail = spawn_passes h.before _ h.beyond h.segments q h.layered e;
        starts = h.starts;
        layered = has_grown h.segments (Spawns q ∷ []) h.layered;
        logged = spawn_fits ls h.segments q h.logged;
        task = record {
          frame_fits = record { waiting = []; orderly = refl; slots = new_fits h.before (child_name fr) [] 0 (env_of program child); doomed = sound };
          under_fits = (record { waiting = with_name x F.waiting; orderly = F.orderly; slots = env_wider h.before fr.instance F.waiting (with_name x F.waiting) (wider_name x F.waiting) 0 fr.env h.top.env F.slots; doomed = F.doomed }, h.task.under_fits);
          fringe = child_above m fr.instance fr.next h.task.fringe;
          stacked = (record { number = fr.next; is = refl; counted = omega arith }, h.task.stacked);
        };
        inside = rw (stretch_grown h.segments (Spawns q ∷ []) h.layered) (every_append (SyncInside m) (stretch h.segments) (Spawns q ∷ []) h.inside (tt, tt));
        reads = λ ruled.
            let r = h.reads ruled in
            let now = (h.before ++ stretch h.segments) ++ Spawns q ∷ [] in
            subst (λ w. TaskReads w q (entering child) (awaiting fr true x todo ∷ t)) (spawn_last h.before h.segments q h.layered) (other_child now fr.instance fr.next child r.0.0, (spawned_todo now fr.instance todo r.0.1, under_spawn (h.before ++ stretch h.segments) fr.instance fr.next t h.task.stacked r.1));
      }

  -- the child alone
  unfoldable pub detach_right : (m : Start) (ls : List Notes) (fr : Frame) (t : List Parent) (d : ℕ) (x : Option ℕ) (child : Child) (todo : Todo) → RightNow m ls fr (spawning d x child todo) t
      → IsRight program tables sight lookup (detached program (record { start = m; layers = ls; frame = fr; phase = spawning d x child todo; under = t }) d child)
  detach_right m ls fr t d x child todo h =
      let q = child_name fr in
      let b = child_inside program tables sight (look_of lookup) d child q in
      let k = (below program tables sight (look_of lookup) (awaiting fr true x todo ∷ t) (h.top ∷ h.others) b.outcome).events in
      let e = subst (λ w. h.before ++ (stretch h.segments ++ (w ++ h.beyond)) ≡ T) (child_goes fr d x child todo t h.top h.others) h.is_trail in
      let e' = spawn_passes h.before _ h.beyond h.segments q h.layered e in
      record {
        before = h.before;
        segments = grown h.segments (Spawns q ∷ []);
        beyond = k ++ h.beyond;
        top = record { env = env_of program child; doom = None };
        others = [];
        is_trail = simp (append_assoc, append-nil) (simp append_assoc at e');
        starts = h.starts;
        layered = has_grown h.segments (Spawns q ∷ []) h.layered;
        logged = spawn_fits ls h.segments q h.logged;
        task = record {
          frame_fits = record { waiting = []; orderly = refl; slots = new_fits h.before q [] 0 (env_of program child); doomed = sound };
          under_fits = tt;
          fringe = child_above m fr.instance fr.next h.task.fringe;
          stacked = tt;
        };
        inside = rw (stretch_grown h.segments (Spawns q ∷ []) h.layered) (every_append (SyncInside m) (stretch h.segments) (Spawns q ∷ []) h.inside (tt, tt));
        reads = λ ruled. (other_child (h.before ++ stretch (grown h.segments (Spawns q ∷ []))) fr.instance fr.next child (h.reads ruled).0.0, tt);
      }

  -- the continuation
  pub continuation_right : (m : Start) (ls : List Notes) (fr : Frame) (t : List Parent) (d : ℕ) (x : Option ℕ) (child : Child) (todo : Todo) → RightNow m ls fr (spawning d x child todo) t
      → IsRightContinuation program tables sight lookup (continuation (record { start = m; layers = ls; frame = fr; phase = spawning d x child todo; under = t }) x todo)
  continuation_right m ls fr t d x child todo h =
      let q = child_name fr in
      let b = child_inside program tables sight (look_of lookup) d child q in
      let e = subst (λ w. h.before ++ (stretch h.segments ++ (w ++ h.beyond)) ≡ T) (child_goes fr d x child todo t h.top h.others) h.is_trail in
      let done = h.before ++ stretch h.segments in
      let spawned = done ++ Spawns q ∷ [] in
      let last = b.events ++ Leaves q b.outcome ∷ [] in
      let seam : h.before ++ ((stretch h.segments ++ Spawns q ∷ b.events) ++ Leaves q b.outcome ∷ []) ≡ spawned ++ last = child_last h.before (stretch h.segments) b.events q (Leaves q b.outcome) in
      let elsewhere : Every IsElsewhere last = every_append IsElsewhere b.events (Leaves q b.outcome ∷ []) (child_elsewhere program tables sight (look_of lookup) d child q (not_main fr.instance fr.next)) ((tt, tt), tt) in
      record {
        before = h.before;
        between = stretch h.segments ++ Spawns q ∷ b.events;
        outcome = b.outcome;
        beyond = h.beyond;
        top = h.top;
        others = h.others;
        is_trail = simp append_assoc (simp append_assoc at e);
        starts = h.starts;
        waiting = h.task.frame_fits.waiting;
        orderly = h.task.frame_fits.orderly;
        slots = h.task.frame_fits.slots;
        doomed = h.task.frame_fits.doomed;
        under_fits = h.task.under_fits;
        spot = h.task.fringe;
        counted = omega arith;
        stacked = h.task.stacked;
        unsynced = λ n. subst (λ w. synced_after true w ≡ false) (sym seam) (still_unsynced spawned last (no_syncs last elsewhere) (unsynced_now done fr.instance fr.next n));
        reads = λ ruled.
            let r = h.reads ruled in
            (r.0.1, subst (λ w. UnderReads w t) (sym seam) (under_on spawned last (no_spawns last elsewhere) t (under_spawn done fr.instance fr.next t h.task.stacked r.1)));
      }
