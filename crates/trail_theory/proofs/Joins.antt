-- Steals, pops and folds keep strands right.
use Rattle.std.proofs.Common.{ℕ, zero, suc, ◌+◌, ◌<◌, List, [], ◌∷◌, ◌++◌, Option, Some, None, Ok, Err, ℤ, ◌≡◌, inl, inr, refl, sym, ap, ap₂, ◌∙◌, subst, subst₂, arith, append_assoc, append-nil, map, Bool, true, false, cond, eqb-true, nat_eq, ◌&&◌}
use Rattle.std.specs.Prelude.{slice_set}
use Rattle.meaning.specs.Tree.{Tree}
use Rattle.meaning.specs.Tables.{Tables}
use Rattle.meaning.specs.Outcome.{Log, Accumulators, Event, Fault, Outcome, Place, Reads, Enters, Updates, Reuses, Begins, Syncs, Leaves, Faults, Marks, Spawns}
use Rattle.meaning.specs.Values.{Env}
use Rattle.meaning.specs.Statements.{put_into}
use Rattle.meaning.specs.Trail.{led, child_of, env_after, doom_after, trail_at}
use Rattle.meaning.specs.SmallStep.{slot, env_of, Slot, unset, waits, has, Start, root, behind, same_name, Frame, Todo, blocks, halves, second, turns, Phase, entering, running, spawning, returning, leaving, broken, Parent, set_into, with_env, with_value, Lookup, look_of, Continuation, place_of_continuation}
use Rattle.trail_theory.specs.SerialRest.{Beside, child_inside, finished_by, todo_walk, phase_walk, parent_walk, below}
use Rattle.meaning.specs.Layers.{SameNotes, blank, Notes, notes, noted_top, take_top}
use Rattle.meaning.specs.LayeredStrand.{stolen, settle_slot, settled_frame, settled_under}
use Rattle.trail_theory.specs.Order.{In, Every, LeavesInOrder}
use Rattle.trail_theory.specs.Waiting.{with_name}
use Rattle.trail_theory.specs.TaskFits.{SlotFits, same, late, lost, EnvFits, DoomFits, sound, hit, FrameFits, UnderFits, IsOrderlyPhase, IsAbove, Higher, Spot, Fringe, Stacked, SyncInside}
use Rattle.trail_theory.specs.Right.{StartsAfter, stretch, LayersFit, Logged, full_rest, RightAt, IsRight, IsRightContinuation, StretchesMultiply, EndsAfter, NoneWaits, NoneWaitsUnder}
use Rattle.trail_theory.proofs.Places.{in_append, in_left, in_right, every_append, every_in, order_strict, last_split, both_ways}
use Rattle.trail_theory.proofs.Order.{ordered_across, ordered_front, same_split}
use Rattle.trail_theory.proofs.SameNotes.{same_refl, same_sym}
use Rattle.trail_theory.specs.MainReads.{PhaseReads, TaskReads}
use Rattle.trail_theory.proofs.MainReads.{spawned_todo, under_settled}
use Rattle.trail_theory.proofs.Slots.{set_into_fits, env_wider, wider_name}
use Rattle.trail_theory.proofs.Advances.{grown, ordered_at, grown_fits, stretch_grown, has_grown, taken_fits}

-- more events before the strand
slot_later : {B : Log} {n : Place} {W : List ℕ} {x : ℕ} {a : Slot} {b : Option ℤ} (C : Log) → ((c : Place) (v : Outcome) → In (Leaves c v) B → In (Leaves c v) C) → SlotFits B n W x a b → SlotFits C n W x a b
slot_later C h (same t) = same t
slot_later {n = n} C h (late {j = j} {v = v} i w) = late (h (child_of n j) (Ok v) i) w
slot_later {n = n} C h (lost {j = j} k i w) = lost k (h (child_of n j) (Err k) i) w

pub env_later : (B C : Log) (n : Place) (W : List ℕ) → ((c : Place) (v : Outcome) → In (Leaves c v) B → In (Leaves c v) C) → (k : ℕ) (env : List Slot) (E : Env) → EnvFits B n W k env E → EnvFits C n W k env E
env_later B C n W h k [] [] f = tt
env_later B C n W h k [] (o ∷ E) f = f
env_later B C n W h k (s ∷ env) [] f = f
env_later B C n W h k (s ∷ env) (o ∷ E) f = (slot_later C h f.0, env_later B C n W h (suc k) env E f.1)

pub doom_later : {B : Log} {n : Place} {o : Option Fault} (C : Log) → ((c : Place) (v : Outcome) → In (Leaves c v) B → In (Leaves c v) C) → DoomFits B n o → DoomFits C n o
doom_later C h sound = sound
doom_later {n = n} C h (hit j k i) = hit j k (h (child_of n j) (Err k) i)

pub under_later : (program : Tree) (B C : Log) (t : List Parent) (Es : List Beside) → ((c : Place) (v : Outcome) → In (Leaves c v) B → In (Leaves c v) C) → UnderFits program B t Es → UnderFits program C t Es
under_later program B C [] [] h u = u
under_later program B C [] (E ∷ Es) h u = u
under_later program B C (p ∷ t) [] h u = u
under_later program B C (p ∷ t) (E ∷ Es) h u =
    (record { waiting = u.0.waiting; orderly = u.0.orderly; slots = env_later B C p.frame.instance u.0.waiting h 0 p.frame.env E.env u.0.slots; doomed = doom_later C h u.0.doomed }, under_later program B C t Es h u.1)

mark_at : (C : Log) (n : Place) (W : List ℕ) (j : ℕ) (o : Option ℤ) (y : ℕ) (slot : (x : ℕ) → x ≡ y → SlotFits C n (y ∷ W) x (waits j) o) (k : ℕ) (env : List Slot) (E : Env) (x : ℕ) → k + x ≡ y → EnvFits C n W k env E → EnvFits C n (y ∷ W) k (slice_set env x (waits j)) (slice_set E x o)
mark_at C n W j o y slot k [] [] x e h = tt
mark_at C n W j o y slot k [] (q ∷ E) x e h = absurd h
mark_at C n W j o y slot k (s ∷ env) [] x e h = absurd h
mark_at C n W j o y slot k (s ∷ env) (q ∷ E) zero e h = (slot k (omega (arith, e)), env_wider C n W (y ∷ W) (wider_name (Some y) W) (suc k) env E h.1)
mark_at C n W j o y slot k (s ∷ env) (q ∷ E) (suc x) e h =
    let f : EnvFits C n (y ∷ W) k (s ∷ []) (q ∷ []) = env_wider C n W (y ∷ W) (wider_name (Some y) W) k (s ∷ []) (q ∷ []) (h.0, tt) in
    (f.0, mark_at C n W j o y slot (suc k) env E x (omega (arith, e)) h.1)

pub mark_fits : (C : Log) (n : Place) (W : List ℕ) (j : ℕ) (o : Outcome) (x : Option ℕ) (env : List Slot) (E : Env) → In (Leaves (child_of n j) o) C → EnvFits C n W 0 env E → EnvFits C n (with_name x W) 0 (set_into env x (waits j)) (env_after E x o)
mark_fits C n W j (Ok v) None env E i h = h
mark_fits C n W j (Err k) None env E i h = h
mark_fits C n W j (Ok v) (Some x) env E i h = mark_at C n W j (Some v) x (λ z e. late i (inl e)) 0 env E x (omega arith) h
mark_fits C n W j (Err k) (Some x) env E i h = mark_at C n W j None x (λ z e. lost k i (inl e)) 0 env E x (omega arith) h

pub doom_marked : (C : Log) (n : Place) (j : ℕ) (doom : Option Fault) (o : Outcome) → In (Leaves (child_of n j) o) C → DoomFits C n doom → DoomFits C n (doom_after doom o)
doom_marked C n j doom (Ok v) i h = h
doom_marked C n j doom (Err k) i h = hit j k i

pub spot_later : (m : Start) (n : Place) (c c' : ℕ) → c < c' → Spot m n c → Spot m n c'
spot_later root n c c' l h = tt
spot_later (behind m k) n c c' l (inl h) = inl (h.0, let a : k < c = h.1 in omega arith)
spot_later (behind m k) n c c' l (inr h) = inr h

-- two stretches that begin at one place
pub record SameStretch (a b a' b' : Log) : Type 0 where
  sooner : a ≡ a'
  later : b ≡ b'

module _ (program : Tree) (tables : Tables) (sight : Accumulators) (lookup : Lookup) where
  abbrev T : Log
  T = trail_at program tables sight (look_of lookup)

  abbrev in_order : (es : Log) → es ≡ T → LeavesInOrder es
  in_order es e = ordered_at program tables sight lookup es e

  pub same_start : (m : Start) (B B' C C' : Log) → StartsAfter m B → StartsAfter m B' → B ++ C ≡ T → B' ++ C' ≡ T → SameStretch B C B' C'
  same_start root B B' C C' s s' e e' =
      record { sooner = s ∙ sym s'; later = (rw s at e) ∙ sym (rw s' at e') }
  same_start (behind m k) B B' C C' s s' e e' =
      let p = child_of m k in
      let f : s.sooner ++ Leaves p s.value ∷ C ≡ T = rw (← append_assoc s.sooner (Leaves p s.value ∷ []) C) (rw s.is at e) in
      let f' : s'.sooner ++ Leaves p s'.value ∷ C' ≡ T = rw (← append_assoc s'.sooner (Leaves p s'.value ∷ []) C') (rw s'.is at e') in
      let q = same_split p s.sooner C s'.sooner C' s.value s'.value (in_order _ f) (in_order _ f') (f ∙ sym f') in
      record { sooner = s.is ∙ ap₂ (λ a v. a ++ Leaves p v ∷ []) q.sooner q.value ∙ sym s'.is; later = q.later }

  unfoldable pub steal_right : (k : Continuation) → IsRightContinuation program tables sight lookup k → IsRight program tables sight lookup (stolen program k)
  steal_right k h =
      let p = place_of_continuation k in
      let B = h.before ++ (h.between ++ Leaves p h.outcome ∷ []) in
      let fr = k.parent.frame in
      let i : In (Leaves p h.outcome) B = in_right (Leaves p h.outcome) h.before _ (in_right (Leaves p h.outcome) h.between _ (inl refl)) in
      let more : (c : Place) (v : Outcome) → In (Leaves c v) h.before → In (Leaves c v) B = λ c v j. in_left (Leaves c v) h.before _ j in
      record {
        before = B;
        segments = [] ∷ [];
        beyond = h.beyond;
        top = record { env = env_after h.top.env k.parent.into h.outcome; doom = doom_after h.top.doom h.outcome };
        others = h.others;
        is_trail = (let e = h.is_trail in simp append_assoc (simp append_assoc at e));
        starts = record { sooner = h.before ++ h.between; value = h.outcome; is = simp append_assoc; unsynced = h.unsynced };
        layered = tt;
        logged = (same_refl (blank program), tt);
        task = record {
          frame_fits = record {
            waiting = with_name k.parent.into h.waiting;
            orderly = h.orderly;
            slots = mark_fits B fr.instance h.waiting k.child h.outcome k.parent.into fr.env h.top.env i (env_later h.before B fr.instance h.waiting more 0 fr.env h.top.env h.slots);
            doomed = doom_marked B fr.instance k.child h.top.doom h.outcome i (doom_later B more h.doomed);
          };
          under_fits = under_later program h.before B k.under h.others more h.under_fits;
          fringe = inl (refl, h.counted);
          stacked = h.stacked;
        };
        inside = tt;
        reads = λ ruled.
            let r = h.reads ruled in
            subst (λ w. TaskReads w fr.instance (running k.parent.todo) k.under) (sym (append-nil B)) (spawned_todo B fr.instance k.parent.todo r.0, r.1);
      }

  unfoldable pub pop_right : (ls : List Notes) (fr : Frame) (v : ℤ) (k : Continuation) → fr.instance ≡ place_of_continuation k → RightAt program tables sight lookup k.since ls fr (leaving v) [] → IsRightContinuation program tables sight lookup k
      → RightAt program tables sight lookup k.since (noted_top ls (Leaves fr.instance (Ok v) ∷ [])) (with_value k.parent v) (running k.parent.todo) k.under
  pop_right ls fr v k e s h =
      let p = place_of_continuation k in
      let here = stretch s.segments in
      let K = λ (o : Outcome). full_rest program tables sight lookup k.parent.frame (running k.parent.todo) k.under (record { env = env_after h.top.env k.parent.into o; doom = doom_after h.top.doom o }) h.others in
      let st = same_start k.since s.before h.before _ _ s.starts h.starts s.is_trail h.is_trail in
      let f : (s.before ++ here) ++ Leaves p (Ok v) ∷ s.beyond ≡ T = rw (append_assoc, ← e) s.is_trail in
      let f' : (h.before ++ h.between) ++ Leaves p h.outcome ∷ (K h.outcome ++ h.beyond) ≡ T = rw (append_assoc h.before h.between (Leaves p h.outcome ∷ (K h.outcome ++ h.beyond))) h.is_trail in
      let q = same_split p (s.before ++ here) s.beyond (h.before ++ h.between) (K h.outcome ++ h.beyond) (Ok v) h.outcome (in_order _ f) (in_order _ f') (f ∙ sym f') in
      let evs = Leaves fr.instance (Ok v) ∷ [] in
      let ss = grown program tables sight lookup s.segments evs in
      let w : stretch ss ≡ here ++ evs = stretch_grown program tables sight lookup s.segments evs s.layered in
      let g : (s.before ++ here) ++ Leaves p (Ok v) ∷ (K (Ok v) ++ h.beyond) ≡ T = subst₂ (λ a w. a ++ Leaves p w ∷ (K w ++ h.beyond) ≡ T) (sym q.sooner) (sym q.value) f' in
      let g' : (s.before ++ here) ++ Leaves fr.instance (Ok v) ∷ (K (Ok v) ++ h.beyond) ≡ T = subst (λ n. (s.before ++ here) ++ Leaves n (Ok v) ∷ (K (Ok v) ++ h.beyond) ≡ T) (sym e) g in
      let t : s.before ++ (stretch ss ++ (K (Ok v) ++ h.beyond)) ≡ T = rw w (simp append_assoc (simp append_assoc at g')) in
      record {
        before = s.before;
        segments = ss;
        beyond = h.beyond;
        top = record { env = put_into k.parent.into h.top.env v; doom = h.top.doom };
        others = h.others;
        is_trail = t;
        starts = s.starts;
        layered = has_grown program tables sight lookup s.segments evs s.layered;
        logged = grown_fits program tables sight lookup ls s.segments evs s.logged;
        task = record {
          frame_fits = record {
            waiting = with_name k.parent.into h.waiting;
            orderly = h.orderly;
            slots = rw st.sooner (set_into_fits h.before k.parent.frame.instance (with_name k.parent.into h.waiting) v k.parent.frame.env h.top.env k.parent.into (env_wider h.before k.parent.frame.instance h.waiting (with_name k.parent.into h.waiting) (wider_name k.parent.into h.waiting) 0 k.parent.frame.env h.top.env h.slots));
            doomed = rw st.sooner h.doomed;
          };
          under_fits = rw st.sooner h.under_fits;
          fringe = spot_later k.since k.parent.frame.instance k.child k.parent.frame.next h.counted h.spot;
          stacked = h.stacked;
        };
        inside = rw w (every_append (SyncInside k.since) here evs s.inside (tt, tt));
        reads = λ ruled.
            let r = h.reads ruled in
            let seam : h.before ++ (h.between ++ Leaves p h.outcome ∷ []) ≡ s.before ++ stretch ss =
            sym (append_assoc h.before h.between (Leaves p h.outcome ∷ [])) ∙ ap₂ (λ a o. a ++ Leaves p o ∷ []) (sym q.sooner) (sym q.value) ∙ ap (λ n. (s.before ++ here) ++ Leaves n (Ok v) ∷ []) (sym e) ∙ append_assoc s.before here evs ∙ ap (λ a. s.before ++ a) (sym w) in
            subst (λ a. TaskReads a k.parent.frame.instance (running k.parent.todo) k.under) seam (spawned_todo (h.before ++ (h.between ++ Leaves p h.outcome ∷ [])) k.parent.frame.instance k.parent.todo r.0, r.1);
      }

-- names by comparison
same_head : (x : ℕ) (a : Place) (y : ℕ) (b : Place) (s t : Bool) → nat_eq x y ≡ s → s && t ≡ true → (t ≡ true → a ≡ b) → x ∷ a ≡ y ∷ b
same_head x a y b true t e h k = ap₂ ◌∷◌ (eqb-true x y e) (k h)
same_head x a y b false t e h k = absurd (both_ways false h refl)

pub same_name_true : (a b : Place) → same_name a b ≡ true → a ≡ b
same_name_true [] [] e = refl
same_name_true [] (y ∷ b) e = cc
same_name_true (x ∷ a) [] e = cc
same_name_true (x ∷ a) (y ∷ b) e = same_head x a y b (nat_eq x y) (same_name a b) refl e (same_name_true a b)

-- what a fold does to the fringe
higher_through : (m : Start) (n q : Place) (k : ℕ) → Higher m (child_of n k) → IsAbove n k q → Higher m q
higher_through root n q k h a = tt
higher_through (behind m k') n q k h a =
    elim (last_split n m k h.child h.path h.is) [
      | inl e ↦ record { child = a.child; path = a.path; later = (let x : k' < h.child = h.later in let y : k < a.child = a.later in let z : k ≡ h.child = e.1 in omega arith); is = a.is ∙ ap (λ l. l ++ a.child ∷ a.path) e.0 }
      | inr e ↦ record { child = h.child; path = e.0 ++ a.child ∷ a.path; later = h.later; is = a.is ∙ ap (λ l. l ++ a.child ∷ a.path) e.1 ∙ append_assoc m (h.child ∷ e.0) (a.child ∷ a.path) }
    ]

spot_through : (m : Start) (n q : Place) (k c : ℕ) → Higher m (child_of n k) → Spot (behind n k) q c → Spot m q c
spot_through root n q k c h s = tt
spot_through (behind m k') n q k c h (inr s) = inr (higher_through (behind m k') n q k h s)
spot_through (behind m k') n q k c h (inl s) =
    elim (last_split n m k h.child h.path h.is) [
      | inl e ↦ inl (s.0 ∙ e.0, let x : k' < h.child = h.later in let z : k ≡ h.child = e.1 in let y : k < c = s.1 in omega arith)
      | inr e ↦ inr (record { child = h.child; path = e.0; later = h.later; is = s.0 ∙ e.1 })
    ]

pub fringe_through : (m : Start) (n q : Place) (k c : ℕ) (ph : Phase) → Higher m (child_of n k) → Fringe (behind n k) q c ph → Fringe m q c ph
fringe_through m n q k c (entering child) h f = higher_through m n q k h f
fringe_through m n q k c (running todo) h f = spot_through m n q k c h f
fringe_through m n q k c (spawning d x child todo) h f = spot_through m n q k c h f
fringe_through m n q k c (returning v) h f = spot_through m n q k c h f
fringe_through m n q k c (broken v) h f = tt
fringe_through m n q k c (leaving v) h f = higher_through m n q k h f

pub inside_through : (m : Start) (n : Place) (k : ℕ) → Higher m (child_of n k) → (es : Log) → Every (SyncInside (behind n k)) es → Every (SyncInside m) es
inside_through m n k h [] i = tt
inside_through m n k h (Reads r ∷ es) i = (tt, inside_through m n k h es i.1)
inside_through m n k h (Enters f args d ∷ es) i = (tt, inside_through m n k h es i.1)
inside_through m n k h (Updates r kind w ∷ es) i = (tt, inside_through m n k h es i.1)
inside_through m n k h (Reuses f args ws ∷ es) i = (tt, inside_through m n k h es i.1)
inside_through m n k h (Begins q d ∷ es) i = (tt, inside_through m n k h es i.1)
inside_through m n k h (Marks f args b ∷ es) i = (tt, inside_through m n k h es i.1)
inside_through m n k h (Leaves q (Ok v) ∷ es) i = (tt, inside_through m n k h es i.1)
inside_through m n k h (Leaves q (Err v) ∷ es) i = absurd i.0
inside_through m n k h (Faults v ∷ es) i = absurd i.0
inside_through m n k h (Syncs q ∷ es) i = (higher_through m n q k h i.0, inside_through m n k h es i.1)
inside_through m n k h (Spawns q ∷ es) i = (tt, inside_through m n k h es i.1)

ends_after : (m : Start) (B C : Log) (c : Place) (w : Outcome) → StartsAfter m B → LeavesInOrder (B ++ C) → In (Leaves c w) C → EndsAfter m c
ends_after root B C c w s o i = tt
ends_after (behind n k) B C c w s o i =
    let p = child_of n k in
    let j : In (Leaves p s.value) B = rw s.is (in_right (Leaves p s.value) s.sooner _ (inl refl)) in
    ordered_across B C p s.value o j c w i

module _ (m : Start) (B C : Log) (e : Place) (v : ℤ) (starts : StartsAfter m B) (ordered : LeavesInOrder (B ++ (C ++ Leaves e (Ok v) ∷ []))) (quiet : Every (SyncInside m) C) where
  -- a child among the left's events, by a check of the names
  late_before : (c : Place) (w : Outcome) → (EndsAfter m c → ⊥) → In (Leaves c w) (B ++ (C ++ Leaves e (Ok v) ∷ [])) → In (Leaves c w) B
  late_before c w check i =
      elim (in_append (Leaves c w) B (C ++ Leaves e (Ok v) ∷ []) i) [ inl j ↦ j | inr j ↦ absurd (check (ends_after m B (C ++ Leaves e (Ok v) ∷ []) c w starts ordered j)) ]

  -- no child of the left's events has a fault
  lost_before : (c : Place) (k : Fault) → In (Leaves c (Err k)) (B ++ (C ++ Leaves e (Ok v) ∷ [])) → In (Leaves c (Err k)) B
  lost_before c k i =
      elim (in_append (Leaves c (Err k)) B (C ++ Leaves e (Ok v) ∷ []) i) [
        | inl j ↦ j
        | inr j ↦ absurd (elim (in_append (Leaves c (Err k)) C (Leaves e (Ok v) ∷ []) j) [
          | inl a ↦ every_in (SyncInside m) (Leaves c (Err k)) C quiet a
          | inr (inl q) ↦ cc
          | inr (inr z) ↦ z
        ])
      ]

  -- the value of the child that is left last
  last_value : (w : ℤ) → In (Leaves e (Ok w)) (B ++ (C ++ Leaves e (Ok v) ∷ [])) → w ≡ v
  last_value w i =
      let o : LeavesInOrder ((B ++ C) ++ Leaves e (Ok v) ∷ []) = rw append_assoc ordered in
      let j : In (Leaves e (Ok w)) ((B ++ C) ++ Leaves e (Ok v) ∷ []) = rw append_assoc i in
      elim (in_append (Leaves e (Ok w)) (B ++ C) (Leaves e (Ok v) ∷ []) j) [
        | inl a ↦ absurd (order_strict e (ordered_across (B ++ C) (Leaves e (Ok v) ∷ []) e (Ok w) o a e (Ok v) (inl refl)))
        | inr (inl q) ↦ cc
        | inr (inr z) ↦ absurd z
      ]

  settle_lost : (n : Place) (W : List ℕ) (x j : ℕ) (k : Fault) (s : Bool) → same_name (child_of n j) e ≡ s → In (Leaves (child_of n j) (Err k)) (B ++ (C ++ Leaves e (Ok v) ∷ [])) → In x W
      → SlotFits B n W x (cond s (has v) (waits j)) None
  settle_lost n W x j k true q i w =
      let h = lost_before (child_of n j) k i in
      let p = same_name_true (child_of n j) e q in
      absurd (order_strict e (ordered_across B (C ++ Leaves e (Ok v) ∷ []) e (Err k) ordered (subst (λ l. In (Leaves l (Err k)) B) p h) e (Ok v) (in_right (Leaves e (Ok v)) C _ (inl refl))))
  settle_lost n W x j k false q i w = lost k (lost_before (child_of n j) k i) w

  settle_late : (n : Place) (W : List ℕ) (x j : ℕ) (w : ℤ) (s : Bool) → same_name (child_of n j) e ≡ s → (s ≡ false → EndsAfter m (child_of n j) → ⊥) → In (Leaves (child_of n j) (Ok w)) (B ++ (C ++ Leaves e (Ok v) ∷ [])) → In x W
      → SlotFits B n W x (cond s (has v) (waits j)) (Some w)
  settle_late n W x j w true q check i k =
      let p = last_value w (subst (λ l. In (Leaves l (Ok w)) (B ++ (C ++ Leaves e (Ok v) ∷ []))) (same_name_true (child_of n j) e q) i) in
      same (ap Some p)
  settle_late n W x j w false q check i k = late (late_before (child_of n j) (Ok w) (check refl) i) k

  settle_fits : (n : Place) (W : List ℕ) (x : ℕ) (a : Slot) (b : Option ℤ) → ((j : ℕ) → settle_slot e v n a ≡ waits j → EndsAfter m (child_of n j) → ⊥) → SlotFits (B ++ (C ++ Leaves e (Ok v) ∷ [])) n W x a b → SlotFits B n W x (settle_slot e v n a) b
  settle_fits n W x unset b check (same t) = same t
  settle_fits n W x (has w) b check (same t) = same t
  settle_fits n W x (waits j) b check (same t) = absurd t
  settle_fits n W x (waits j) b check (late {v = w} i k) =
      settle_late n W x j w (same_name (child_of n j) e) refl (λ q. check j (ap (λ s. cond s (has v) (waits j)) q)) i k
  settle_fits n W x (waits j) b check (lost k i w) =
      settle_lost n W x j k (same_name (child_of n j) e) refl i w

  pub settle_env : (n : Place) (W : List ℕ) (k : ℕ) (env : List Slot) (E : Env) → Every (λ s. (j : ℕ) → s ≡ waits j → EndsAfter m (child_of n j) → ⊥) (map (settle_slot e v n) env) → EnvFits (B ++ (C ++ Leaves e (Ok v) ∷ [])) n W k env E → EnvFits B n W k (map (settle_slot e v n) env) E
  settle_env n W k [] [] check h = tt
  settle_env n W k [] (o ∷ E) check h = h
  settle_env n W k (s ∷ env) [] check h = h
  settle_env n W k (s ∷ env) (o ∷ E) check h = (settle_fits n W k s o check.0 h.0, settle_env n W (suc k) env E check.1 h.1)

  pub settle_doom : (n : Place) (o : Option Fault) → DoomFits (B ++ (C ++ Leaves e (Ok v) ∷ [])) n o → DoomFits B n o
  settle_doom n None sound = sound
  settle_doom n (Some q) (hit j k i) = hit j k (lost_before (child_of n j) k i)

  pub settle_under : (program : Tree) (t : List Parent) (Es : List Beside) → NoneWaitsUnder m (settled_under e v t) → UnderFits program (B ++ (C ++ Leaves e (Ok v) ∷ [])) t Es → UnderFits program B (settled_under e v t) Es
  settle_under program [] [] check u = tt
  settle_under program [] (E ∷ Es) check u = u
  settle_under program (p ∷ t) [] check u = u
  settle_under program (p ∷ t) (E ∷ Es) check u =
      (record { waiting = u.0.waiting; orderly = u.0.orderly; slots = settle_env p.frame.instance u.0.waiting 0 p.frame.env E.env check.0 u.0.slots; doomed = settle_doom p.frame.instance E.doom u.0.doomed }, settle_under program t Es check.1 u.1)

settle_one : (e : Place) (v : ℤ) (n : Place) (o : Option ℤ) → settle_slot e v n (slot o) ≡ slot o
settle_one e v n None = refl
settle_one e v n (Some w) = refl

settle_new : (e : Place) (v : ℤ) (n : Place) (E : Env) → map (settle_slot e v n) (map slot E) ≡ map slot E
settle_new e v n [] = refl
settle_new e v n (o ∷ E) = ap₂ ◌∷◌ (settle_one e v n o) (settle_new e v n E)

pub settle_stacked : (e : Place) (v : ℤ) (n : Place) (t : List Parent) → Stacked n t → Stacked n (settled_under e v t)
settle_stacked e v n [] h = tt
settle_stacked e v n (p ∷ t) h = (record { number = h.0.number; is = h.0.is; counted = h.0.counted }, settle_stacked e v p.frame.instance t h.1)

module _ (program : Tree) (tables : Tables) (sight : Accumulators) (lookup : Lookup) where
  -- what a fold settles is what the serial run has already
  settle_todo : (e : Place) (v : ℤ) (fr : Frame) (todo : Todo) (env : Env) (c : ℕ) (doom : Option Fault) → todo_walk program tables sight (look_of lookup) (settled_frame e v fr) todo env c doom ≡ todo_walk program tables sight (look_of lookup) fr todo env c doom
  settle_todo e v fr (blocks bs) env c doom = refl
  settle_todo e v fr (halves k job count i) env c doom = refl
  settle_todo e v fr (second k job count i) env c doom = refl
  settle_todo e v fr (turns job count i) env c doom = refl

  settle_walk : (e : Place) (v : ℤ) (fr : Frame) (ph : Phase) (g : Beside) → phase_walk program tables sight (look_of lookup) (settled_frame e v fr) ph g ≡ phase_walk program tables sight (look_of lookup) fr ph g
  settle_walk e v fr (entering child) g = refl
  settle_walk e v fr (running todo) g = settle_todo e v fr todo g.env fr.next g.doom
  settle_walk e v fr (spawning d x child todo) g = λ p. led (Spawns (child_of fr.instance fr.next) ∷ []) (finished_by program tables sight (look_of lookup) (child_of fr.instance fr.next) (child_inside program tables sight (look_of lookup) d child (child_of fr.instance fr.next)) (λ o. settle_todo e v fr todo (env_after g.env x o) (suc fr.next) (doom_after g.doom o) p))
  settle_walk e v fr (returning w) g = refl
  settle_walk e v fr (leaving w) g = refl
  settle_walk e v fr (broken k) g = refl

  settle_parent : (e : Place) (v : ℤ) (p : Parent) (b : Bool) (g : Beside) (o : Outcome)
      → parent_walk program tables sight (look_of lookup) (record { frame = settled_frame e v p.frame; spawned = p.spawned; into = p.into; todo = p.todo }) b g o ≡ parent_walk program tables sight (look_of lookup) p b g o
  settle_parent e v p true g o = settle_todo e v p.frame p.todo (env_after g.env p.into o) p.frame.next (doom_after g.doom o)
  settle_parent e v p false g (Ok w) = settle_todo e v p.frame p.todo (put_into p.into g.env w) p.frame.next g.doom
  settle_parent e v p false g (Err k) = refl

  settle_below : (e : Place) (v : ℤ) (t : List Parent) (gs : List Beside) (o : Outcome) → below program tables sight (look_of lookup) (settled_under e v t) gs o ≡ below program tables sight (look_of lookup) t gs o
  settle_below e v [] gs o = refl
  settle_below e v (p ∷ t) [] o = refl
  settle_below e v (p ∷ t) (g ∷ gs) o = λ i. finished_by program tables sight (look_of lookup) p.frame.instance (settle_parent e v p p.spawned g o i) (λ o'. settle_below e v t gs o' i)

  pub settle_rest : (e : Place) (v : ℤ) (fr : Frame) (ph : Phase) (t : List Parent) (g : Beside) (gs : List Beside) → full_rest program tables sight lookup (settled_frame e v fr) ph (settled_under e v t) g gs ≡ full_rest program tables sight lookup fr ph t g gs
  settle_rest e v fr ph t g gs = λ i. (finished_by program tables sight (look_of lookup) fr.instance (settle_walk e v fr ph g i) (λ o. settle_below e v t gs o i)).events

  pub one_layer : (lr : Notes) (ss : List Log) → LayersFit program (lr ∷ []) ss → SameNotes (notes program (stretch ss)) lr
  one_layer lr [] h = absurd h
  one_layer lr (s ∷ []) h = same_sym lr (notes program s) h.0
  one_layer lr (s ∷ s' ∷ ss) h = absurd h.1

  pub join_logged : StretchesMultiply program tables sight lookup → (ph : Phase) (lr : Notes) (x y : Log) (e : Place) (v : ℤ) (ls : List Notes) (ss sr : List Log) → x ++ (stretch (grown program tables sight lookup ss (Leaves e (Ok v) ∷ stretch sr)) ++ y) ≡ trail_at program tables sight (look_of lookup) → LayersFit program ls ss → Logged program ph (lr ∷ []) sr → Logged program ph (take_top program lr ls) (grown program tables sight lookup ss (Leaves e (Ok v) ∷ stretch sr))
  join_logged law (entering child) lr x y e v ls ss sr q h k = taken_fits program tables sight lookup law lr x y (Leaves e (Ok v) ∷ stretch sr) ls ss (one_layer lr sr k) q h
  join_logged law (running todo) lr x y e v ls ss sr q h k = taken_fits program tables sight lookup law lr x y (Leaves e (Ok v) ∷ stretch sr) ls ss (one_layer lr sr k) q h
  join_logged law (spawning d x' child todo) lr x y e v ls ss sr q h k = taken_fits program tables sight lookup law lr x y (Leaves e (Ok v) ∷ stretch sr) ls ss (one_layer lr sr k) q h
  join_logged law (returning w) lr x y e v ls ss sr q h k = taken_fits program tables sight lookup law lr x y (Leaves e (Ok v) ∷ stretch sr) ls ss (one_layer lr sr k) q h
  join_logged law (leaving w) lr x y e v ls ss sr q h k = taken_fits program tables sight lookup law lr x y (Leaves e (Ok v) ∷ stretch sr) ls ss (one_layer lr sr k) q h
  join_logged law (broken j) lr x y e v ls ss sr q h k = tt

  pub settle_orderly : (W : List ℕ) (e : Place) (v : ℤ) (fr : Frame) (ph : Phase) → IsOrderlyPhase program W fr ph → IsOrderlyPhase program W (settled_frame e v fr) ph
  settle_orderly W e v fr (entering child) h =
      let q : fr.env ≡ map slot (env_of program child) = ap (λ f. f.env) h in
      ap (with_env fr) (ap (map (settle_slot e v fr.instance)) q ∙ settle_new e v fr.instance (env_of program child) ∙ sym q) ∙ h
  settle_orderly W e v fr (running todo) h = h
  settle_orderly W e v fr (spawning d x child todo) h = h
  settle_orderly W e v fr (returning w) h = h
  settle_orderly W e v fr (leaving w) h = h
  settle_orderly W e v fr (broken k) h = h

  -- a fold leaves where the instances stand among the reads
  pub settle_phase : (done : Log) (e : Place) (v : ℤ) (fr : Frame) (ph : Phase) → PhaseReads done fr.instance ph → PhaseReads done (settled_frame e v fr).instance ph
  settle_phase done e v fr ph h = h

  pub join_seam : (a b c : Log) (e : Event) → (a ++ (b ++ e ∷ [])) ++ c ≡ a ++ (b ++ e ∷ c)
  join_seam a b c e = simp append_assoc

  unfoldable pub join_at : StretchesMultiply program tables sight lookup → (s : Start) (ls : List Notes) (frl : Frame) (v : ℤ) (m : Place) (k : ℕ) (lr : Notes) (fr : Frame) (ph : Phase) (t : List Parent)
      → RightAt program tables sight lookup s ls frl (leaving v) [] → RightAt program tables sight lookup (behind m k) (lr ∷ []) fr ph t → frl.instance ≡ child_of m k
      → NoneWaits s (settled_frame frl.instance v fr) → NoneWaitsUnder s (settled_under frl.instance v t)
      → RightAt program tables sight lookup s (take_top program lr ls) (settled_frame frl.instance v fr) ph (settled_under frl.instance v t)
  join_at law s ls frl v m k lr fr ph t hl hr named check checks =
      let T = trail_at program tables sight (look_of lookup) in
      let e = frl.instance in
      let here = stretch hl.segments in
      let there = stretch hr.segments in
      let X = full_rest program tables sight lookup fr ph t hr.top hr.others in
      let f : (hl.before ++ here) ++ Leaves e (Ok v) ∷ hl.beyond ≡ T = rw append_assoc hl.is_trail in
      let b : hr.before ≡ hr.starts.sooner ++ Leaves e hr.starts.value ∷ [] = rw named hr.starts.is in
      let f' : hr.starts.sooner ++ Leaves e hr.starts.value ∷ (there ++ (X ++ hr.beyond)) ≡ T =
      sym (append_assoc hr.starts.sooner (Leaves e hr.starts.value ∷ []) (there ++ (X ++ hr.beyond))) ∙ ap (λ l. l ++ (there ++ (X ++ hr.beyond))) (sym b) ∙ hr.is_trail in
      let q = same_split e (hl.before ++ here) hl.beyond hr.starts.sooner (there ++ (X ++ hr.beyond)) (Ok v) hr.starts.value (ordered_at program tables sight lookup _ f) (ordered_at program tables sight lookup _ f') (f ∙ sym f') in
      let seam : hr.before ≡ hl.before ++ (here ++ Leaves e (Ok v) ∷ []) = b ∙ ap₂ (λ a w. a ++ Leaves e w ∷ []) (sym q.sooner) (sym q.value) ∙ append_assoc hl.before here (Leaves e (Ok v) ∷ []) in
      let o : LeavesInOrder (hl.before ++ (here ++ Leaves e (Ok v) ∷ [])) = rw (← seam) (ordered_front hr.before _ (ordered_at program tables sight lookup _ hr.is_trail)) in
      let g : (hl.before ++ (here ++ Leaves e (Ok v) ∷ [])) ++ (there ++ (X ++ hr.beyond)) ≡ T = rw (← seam) hr.is_trail in
      let evs = Leaves e (Ok v) ∷ there in
      let ss = grown program tables sight lookup hl.segments evs in
      let w : stretch ss ≡ here ++ evs = stretch_grown program tables sight lookup hl.segments evs hl.layered in
      let g' : hl.before ++ (stretch ss ++ (X ++ hr.beyond)) ≡ T = rw w (simp append_assoc (simp append_assoc at g)) in
      let high : Higher s (child_of m k) = rw named at hl.task.fringe in
      let F : FrameFits program (hl.before ++ (here ++ Leaves e (Ok v) ∷ [])) fr ph hr.top = rw seam at hr.task.frame_fits in
      record {
        before = hl.before;
        segments = ss;
        beyond = hr.beyond;
        top = hr.top;
        others = hr.others;
        is_trail = rw (settle_rest e v fr ph t hr.top hr.others) g';
        starts = hl.starts;
        layered = has_grown program tables sight lookup hl.segments evs hl.layered;
        logged = join_logged law ph lr hl.before (X ++ hr.beyond) e v ls hl.segments hr.segments g' hl.logged hr.logged;
        task = record {
          frame_fits = record { waiting = F.waiting; orderly = settle_orderly F.waiting e v fr ph F.orderly; slots = settle_env s hl.before here e v hl.starts o hl.inside fr.instance F.waiting 0 fr.env hr.top.env check F.slots; doomed = settle_doom s hl.before here e v hl.starts o hl.inside fr.instance hr.top.doom F.doomed };
          under_fits = settle_under s hl.before here e v hl.starts o hl.inside program t hr.others checks (rw seam at hr.task.under_fits);
          fringe = fringe_through s m fr.instance k fr.next ph high hr.task.fringe;
          stacked = settle_stacked e v fr.instance t hr.task.stacked;
        };
        inside = rw w (every_append (SyncInside s) here evs hl.inside (tt, inside_through s m k high there hr.inside));
        reads = λ ruled.
            let z : hr.before ++ there ≡ hl.before ++ stretch ss = ap (λ a. a ++ there) seam ∙ join_seam hl.before here there (Leaves e (Ok v)) ∙ ap (λ a. hl.before ++ a) (sym w) in
            let r = subst (λ a. TaskReads a fr.instance ph t) z (hr.reads ruled) in
            (settle_phase (hl.before ++ stretch ss) e v fr ph r.0, under_settled (hl.before ++ stretch ss) e v t r.1);
      }
