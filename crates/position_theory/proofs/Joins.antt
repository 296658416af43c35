-- Two neighbours that become one strand, by numbers and by names.
use Rattle.std.proofs.Common.{◌≡◌, ℕ, zero, suc, ◌+◌, ◌-◌, ◌≤◌, ◌==◌, Bool, true, false, ◌&&◌, cond, if◌then◌else◌, List, [], ◌∷◌, ◌++◌, map, length, take, Option, Some, None, refl, sym, ◌∙◌, ap, ap₂, subst, arith}
use Rattle.std.specs.Prelude.{ℤ, nat_eq}
use Rattle.std.proofs.lemmas.Bool.{eq-eqb, eqb-true}
use Rattle.std.proofs.lemmas.List.{take_all, take-take, take-append-le, length-take-le, length-append}
use Rattle.std.proofs.Math.Dec.{eqb-suc-zero}
use Rattle.meaning.specs.Outcome.{Place}
use Rattle.meaning.specs.Trail.{child_of}
use Rattle.meaning.specs.SmallStep.{slot, unset, has, waits, Slot as NamedSlot, root, behind, Start as NamedStart, Frame, Todo, blocks, halves, second, turns, Child, instance, half, Phase as NamedPhase, entering, running, returning, leaving, Parent, same_name, with_env}
use Rattle.meaning.specs.Layers.{Notes}
use Rattle.meaning.specs.Tallies.{Tally, tallies_joined}
use Rattle.meaning.specs.LayeredStrand as strands
use Rattle.meaning.specs.LayeredStrand.{LayeredStrand, settle_slot, settled_frame, settled_under, joined_layers}
use Rattle.meaning.specs.Schedules.{place_of_start, broken_pair, joined_pair}
use Rattle.evaluation.specs.declared.slot.Slot.{Slot}
use Rattle.evaluation.specs.declared.slot.Slot.TheVariants.{Unset, Waits, Has}
use Rattle.evaluation.specs.Slots.{meant}
use Rattle.positions.specs.declared.work.Work.{Work}
use Rattle.positions.specs.declared.work.Work.TheVariants.{Block, Over, Halves, Second, Turns}
use Rattle.positions.specs.declared.phase.Fault.{Fault}
use Rattle.positions.specs.declared.phase.Phase.{Phase}
use Rattle.positions.specs.declared.phase.Phase.TheVariants as phase
use Rattle.positions.specs.declared.start.Start.{Start}
use Rattle.positions.specs.declared.start.Start.TheVariants.{Root, Behind}
use Rattle.positions.specs.Setting.{Setting}
use Rattle.positions.specs.Activations.{PlainActivation}
use Rattle.positions.specs.Code.{may_nest}
use Rattle.positions.specs.Layers.{PlainLayer, multiplied}
use Rattle.positions.specs.Tallies.{PlainOpened, PlainTally, tallies_joined as plain_tallies_joined}
use Rattle.positions.specs.Strands.{PlainStrand, shorter, IsLayeredAt}
use Rattle.positions.specs.Nesting.{AreNested, NestAt}
use Rattle.positions.specs.Moves.{settled_slot, settled_slots, settled, settled_below, settled_at, settled_by, joined_ended, joined_broken, joined_after, joined_at, joined}
use Rattle.positions.specs.Stands.{IsWithin, IsStart, IsKept, AreNotes, IsTally, named_fault, frame_of, slots_by, IsTodoAt, IsTodo, IsParent, AreParents, IsNewInstance, IsNew, StandsAt, StandsFor}
use Rattle.positions.specs.Simulation.{IsBehind, IsNotAtSpawn, IsJoined}
use Rattle.position_theory.proofs.Recorded.{records_append}
use Rattle.position_theory.proofs.Products.{notes_multiplied}
use Rattle.position_theory.proofs.Starts.{start_moved}

-- ---- settled slots

and_true : (b : Bool) → (b && true) ≡ b
and_true true = refl
and_true false = refl

same_child : (n : Place) (j k : ℕ) → same_name (n ++ j ∷ []) (n ++ k ∷ []) ≡ (j == k)
same_child [] j k = and_true (nat_eq j k)
same_child (i ∷ n) j k = ap (λ b. b && same_name (n ++ j ∷ []) (n ++ k ∷ [])) (eq-eqb i i refl) ∙ same_child n j k

and_false : (c d : Bool) → d ≡ false → (c && d) ≡ false
and_false true d e = e
and_false false d e = refl

-- names of other lengths are other names
other_length : (m n : Place) → (length m ≡ length n → ⊥) → same_name m n ≡ false
other_length [] [] h = absurd (h refl)
other_length [] (b ∷ n) h = refl
other_length (a ∷ m) [] h = refl
other_length (a ∷ m) (b ∷ n) h = and_false (nat_eq a b) (same_name m n) (other_length m n (λ e. h (ap suc e)))

left_true : (b c : Bool) → (b && c) ≡ true → b ≡ true
left_true true c e = refl
left_true false c e = absurd cc

right_true : (b c : Bool) → (b && c) ≡ true → c ≡ true
right_true true c e = e
right_true false c e = absurd cc

same_is : (m n : Place) → same_name m n ≡ true → m ≡ n
same_is [] [] e = refl
same_is [] (b ∷ n) e = absurd cc
same_is (a ∷ m) [] e = absurd cc
same_is (a ∷ m) (b ∷ n) e =
    ap (λ k. k ∷ m) (eqb-true a b (left_true (nat_eq a b) (same_name m n) e)) ∙ ap (λ l. b ∷ l) (same_is m n (right_true (nat_eq a b) (same_name m n) e))

module _ (e : Place) (v : ℤ) where
  apart_slots : (n : Place) → (suc (length n) ≡ length e → ⊥) → (env : List NamedSlot) → map (settle_slot e v n) env ≡ env
  apart_slots n h [] = refl
  apart_slots n h (unset ∷ env) = ap (λ l. unset ∷ l) (apart_slots n h env)
  apart_slots n h (waits j ∷ env) =
      ap (λ b. cond b (has v) (waits j) ∷ map (settle_slot e v n) env) (other_length (n ++ j ∷ []) e (λ same. h (let long : length (n ++ j ∷ []) ≡ length n + 1 = length-append n (j ∷ []) in omega arith)))
      ∙ ap (λ l. waits j ∷ l) (apart_slots n h env)
  apart_slots n h (has w ∷ env) = ap (λ l. has w ∷ l) (apart_slots n h env)

  -- an instance that is not the child's parent
  apart_frame : (fr : Frame) → (suc (length fr.instance) ≡ length e → ⊥) → settled_frame e v fr ≡ fr
  apart_frame fr h = ap (with_env fr) (apart_slots fr.instance h fr.env)

settle_by : (b : Bool) (v : ℤ) (j : ℕ) → cond b (has v) (waits j) ≡ meant (if b then Has v else Waits j)
settle_by true v j = refl
settle_by false v j = refl

module _ (n : Place) (k : ℕ) (v : ℤ) where
  here_slots : (slots : List Slot) → map (settle_slot (n ++ k ∷ []) v n) (map meant slots) ≡ map meant (map (settled_slot k v) slots)
  here_slots [] = refl
  here_slots (Unset ∷ slots) = ap (λ l. unset ∷ l) (here_slots slots)
  here_slots (Waits j ∷ slots) =
      ap (λ b. cond b (has v) (waits j) ∷ map (settle_slot (n ++ k ∷ []) v n) (map meant slots)) (same_child n j k)
      ∙ ap (λ s. s ∷ map (settle_slot (n ++ k ∷ []) v n) (map meant slots)) (settle_by (j == k) v j)
      ∙ ap (λ l. meant (settled_slot k v (Waits j)) ∷ l) (here_slots slots)
  here_slots (Has w ∷ slots) = ap (λ l. has w ∷ l) (here_slots slots)

module _ (setting : Setting) where
  here_by : (n : Place) (k : ℕ) (v : ℤ) (w : Work) (slots : List Slot) → map (settle_slot (n ++ k ∷ []) v n) (slots_by setting w slots) ≡ slots_by setting w (settled_slots w k v slots)
  here_by n k v (Block q) slots = here_slots n k v slots
  here_by n k v Over slots = here_slots n k v slots
  here_by n k v (Halves lp i h) slots = refl
  here_by n k v (Second lp i h) slots = refl
  here_by n k v (Turns lp h) slots = refl

  -- the child's parent
  here_frame : (n : Place) (k : ℕ) (v : ℤ) (a : PlainActivation) → settled_frame (n ++ k ∷ []) v (frame_of setting n a) ≡ frame_of setting n (settled k v a)
  here_frame n k v a = ap (with_env (frame_of setting n a)) (here_by n k v a.work a.slots)

  todo_by : (k : ℕ) (v : ℤ) (a : PlainActivation) (w : Work) (todo : Todo) → IsTodoAt setting a w todo → IsTodoAt setting (record a { slots = settled_slots w k v a.slots }) w todo
  todo_by k v a (Block q) (blocks bs) h = h
  todo_by k v a Over (blocks []) h = tt
  todo_by k v a (Halves lp i p) (halves n job count j) h = h
  todo_by k v a (Second lp i p) (second n job count j) h = h
  todo_by k v a (Turns lp p) (turns job count j) h = h
  todo_by k v a w todo h = absurd h

  todo_settled : (k : ℕ) (v : ℤ) (a : PlainActivation) (todo : Todo) → IsTodo setting a todo → IsTodo setting (settled k v a) todo
  todo_settled k v a todo h = todo_by k v a a.work todo h

  no_waits : (k : ℕ) (v : ℤ) (slots : List Slot) (env : List (Option ℤ)) → map meant slots ≡ map slot env → map (settled_slot k v) slots ≡ slots
  no_waits k v [] env h = refl
  no_waits k v (s ∷ slots) [] h = absurd cc
  no_waits k v (Unset ∷ slots) (o ∷ env) h = ap (λ l. Unset ∷ l) (no_waits k v slots env cc)
  no_waits k v (Waits j ∷ slots) (None ∷ env) h = absurd cc
  no_waits k v (Waits j ∷ slots) (Some w ∷ env) h = absurd cc
  no_waits k v (Has w ∷ slots) (o ∷ env) h = ap (λ l. Has w ∷ l) (no_waits k v slots env cc)

  instance_settled : (k : ℕ) (v : ℤ) (a : PlainActivation) (f : List ℕ) (vs : List ℤ) → IsNewInstance setting a f vs → IsNewInstance setting (settled k v a) f vs
  instance_settled k v a f vs h = record {
    procedure = h.procedure;
    children = h.children;
    work = h.work;
    outer = h.outer;
    slots =
        ap (λ w. map meant (settled_slots w k v a.slots)) h.work
        ∙ ap (map meant) (no_waits k v a.slots _ h.slots)
        ∙ h.slots;
  }

  new_settled : (k : ℕ) (v : ℤ) (args : List ℤ) (a : PlainActivation) (child : Child) → IsNew setting args a child → IsNew setting args (settled k v a) child
  new_settled k v args a (instance f vs) h = (instance_settled k v a f vs h.0, h.1)
  new_settled k v args a (half n job count i) h = (h.0, todo_settled k v a (halves n job count i) h.1)

  -- ---- the instances below

  shortened : (over : Place) (k : ℕ) → over ≡ child_of (shorter over) k → length over ≡ suc (length (shorter over))
  shortened over k h = ap length h ∙ length-append (shorter over) (k ∷ []) ∙ (let e : length (shorter over) + 1 ≡ suc (length (shorter over)) = omega arith in e)

  apart_parent : (e : Place) (v : ℤ) (over : Place) (a : PlainActivation) (p : Parent) → (length over ≡ length e → ⊥) → IsParent setting over a p
      → IsParent setting over a (record { frame = settled_frame e v p.frame; spawned = p.spawned; into = p.into; todo = p.todo })
  apart_parent e v over a p h i = record {
    named = i.named;
    frame = ap (settled_frame e v) i.frame ∙ apart_frame e v (frame_of setting (shorter over) a) (λ same. h (shortened over a.children i.named ∙ same));
    spawned = i.spawned;
    into = i.into;
    unbound = i.unbound;
    todo = i.todo;
  }

  apart_parents : (e : Place) (v : ℤ) (over : Place) (below : List PlainActivation) (under : List Parent) → ((n : ℕ) → suc n ≤ length over → suc n ≡ length e → ⊥) → AreParents setting over below under
      → AreParents setting over below (settled_under e v under)
  apart_parents e v over [] [] far h = tt
  apart_parents e v over [] (p ∷ under) far h = absurd h
  apart_parents e v over (a ∷ below) [] far h = absurd h
  apart_parents e v over (a ∷ below) (p ∷ under) far h =
      let long : length over ≡ suc (length (shorter over)) = shortened over a.children h.0.named in
      (apart_parent e v over a p (λ same. far (length (shorter over)) (omega arith) (sym long ∙ same)) h.0, apart_parents e v (shorter over) below under (λ n le. far n (omega arith)) h.1)

  here_parent : (k : ℕ) (v : ℤ) (over : Place) (a : PlainActivation) (p : Parent) → IsParent setting over a p
      → IsParent setting over (settled k v a) (record { frame = settled_frame (shorter over ++ k ∷ []) v p.frame; spawned = p.spawned; into = p.into; todo = p.todo })
  here_parent k v over a p i = record {
    named = i.named;
    frame = ap (settled_frame (shorter over ++ k ∷ []) v) i.frame ∙ here_frame (shorter over) k v a;
    spawned = i.spawned;
    into = i.into;
    unbound = i.unbound;
    todo = todo_settled k v a p.todo i.todo;
  }

  -- the instance so many places below: its name is the first d numbers
  settled_in : (d k : ℕ) (v : ℤ) (m : Place) (i : ℕ) (over : Place) (below : List PlainActivation) (under : List Parent) → length m ≡ d → length over ≡ suc (d + i) → take d over ≡ m
      → AreParents setting over below under → AreParents setting over (settled_below i k v below) (settled_under (m ++ k ∷ []) v under)
  settled_in d k v m i over [] [] lm lo front h = tt
  settled_in d k v m i over [] (p ∷ under) lm lo front h = absurd h
  settled_in d k v m i over (a ∷ below) [] lm lo front h = absurd h
  settled_in d k v m zero over (a ∷ below) (p ∷ under) lm lo front h =
      let here : shorter over ≡ m = ap (λ n. take n over) (let e : length over - 1 ≡ d = omega arith in e) ∙ front in (
        subst (λ n. IsParent setting over (settled k v a) (record { frame = settled_frame (n ++ k ∷ []) v p.frame; spawned = p.spawned; into = p.into; todo = p.todo })) here (here_parent k v over a p h.0),
        apart_parents (m ++ k ∷ []) v (shorter over) below under (λ n le same. let long : length (m ++ k ∷ []) ≡ length m + 1 = length-append m (k ∷ []) in let short : length (shorter over) ≡ length m = ap length here in omega arith) h.1,
      )
  settled_in d k v m (suc i) over (a ∷ below) (p ∷ under) lm lo front h =
      let long : length over ≡ suc (length (shorter over)) = shortened over a.children h.0.named in
      let less : d ≤ length over - 1 = omega arith in
      subst (λ b. AreParents setting over (if b then settled k v a ∷ below else a ∷ settled_below (suc i - 1) k v below) (settled_under (m ++ k ∷ []) v (p ∷ under))) (sym (eqb-suc-zero i)) (
        apart_parent (m ++ k ∷ []) v over a p (λ same. let other : length (m ++ k ∷ []) ≡ length m + 1 = length-append m (k ∷ []) in omega arith) h.0,
        subst (λ j. AreParents setting (shorter over) (settled_below j k v below) (settled_under (m ++ k ∷ []) v under)) (let e : i ≡ suc i - 1 = omega arith in e)
            (settled_in d k v m i (shorter over) below under lm (omega arith) (take-take d (length over - 1) over less ∙ front) h.1),
      )

  -- what a settled strand's instances are
  record Settles (path : Place) (top : PlainActivation) (below : List PlainActivation) (e : Place) (v : ℤ) (s : PlainStrand) : Type 0 where
    pub frame : settled_frame e v (frame_of setting path top) ≡ frame_of setting path s.top
    pub under : (us : List Parent) → AreParents setting path below us → AreParents setting path s.below (settled_under e v us)
    pub todo : (todo : Todo) → IsTodo setting top todo → IsTodo setting s.top todo
    pub new : (args : List ℤ) (child : Child) → IsNew setting args top child → IsNew setting args s.top child

  -- no instance is the child's parent
  settles_none : (r : PlainStrand) (e : Place) (v : ℤ) → e ≡ [] → Settles r.path r.top r.below e v r
  settles_none r e v none =
      let empty : length e ≡ 0 = ap length none in
      record {
        frame = apart_frame e v (frame_of setting r.path r.top) (λ same. (omega arith));
        under = λ us. apart_parents e v r.path r.below us (λ n le same. (omega arith));
        todo = λ todo h. h;
        new = λ args child h. h;
      }

  settles_at : (d k : ℕ) (v : ℤ) (m : Place) (r : PlainStrand) (i : ℕ) → length m ≡ d → length r.path ≡ d + i → take d r.path ≡ m → Settles r.path r.top r.below (m ++ k ∷ []) v (settled_at i k v r)
  settles_at d k v m r zero lm lp front =
      let here : r.path ≡ m = sym (take_all d r.path (omega arith)) ∙ front in
      record {
        frame = subst (λ n. settled_frame (n ++ k ∷ []) v (frame_of setting r.path r.top) ≡ frame_of setting r.path (settled k v r.top)) here (here_frame r.path k v r.top);
        under = λ us. apart_parents (m ++ k ∷ []) v r.path r.below us (λ n le same. let long : length (m ++ k ∷ []) ≡ length m + 1 = length-append m (k ∷ []) in omega arith);
        todo = todo_settled k v r.top;
        new = λ args. new_settled k v args r.top;
      }
  settles_at d k v m r (suc i) lm lp front =
      subst (λ b. Settles r.path r.top r.below (m ++ k ∷ []) v (if b then record r { top = settled k v r.top } else record r { below = settled_below (suc i - 1) k v r.below })) (sym (eqb-suc-zero i))
      (record {
        frame = apart_frame (m ++ k ∷ []) v (frame_of setting r.path r.top) (λ same. let long : length (m ++ k ∷ []) ≡ length m + 1 = length-append m (k ∷ []) in omega arith);
        under = λ us h. subst (λ j. AreParents setting r.path (settled_below j k v r.below) (settled_under (m ++ k ∷ []) v us)) (let e : i ≡ suc i - 1 = omega arith in e)
            (settled_in d k v m i r.path r.below us lm (omega arith) front h);
        todo = λ todo h. h;
        new = λ args child h. h;
      })

  -- the right strand's beginning, and the place behind which it begins
  settles_by : (st : Start) (ph : Phase) (r : PlainStrand) (y : NamedStart) (v : ℤ) → ((d n : ℕ) → IsWithin ph d n → d ≤ n) → IsStart st ph r.path y → Settles r.path r.top r.below (place_of_start y) v (settled_by st v r)
  settles_by Root ph r root v f h = settles_none r [] v refl
  settles_by Root ph r (behind m j) v f h = absurd h
  settles_by (Behind d k) ph r root v f h = absurd h
  settles_by (Behind d k) ph r (behind m j) v f h =
      let le : d ≤ length r.path = f d (length r.path) h.2 in
      let long : length m ≡ d = ap length h.0 ∙ length-take-le d r.path le in
      subst (λ c. Settles r.path r.top r.below (m ++ c ∷ []) v (settled_at (length r.path - d) k v r)) (sym h.1)
      (settles_at d k v m r (length r.path - d) long (omega arith) (sym h.0))

  -- ---- a pair

  shape_by : (b : Bool) (r : PlainStrand) (a : PlainActivation) (below : List PlainActivation)
      → (if b then record r { top = a } else record r { below = below }) ≡ record r { top = (if b then record r { top = a } else record r { below = below }).top; below = (if b then record r { top = a } else record r { below = below }).below }
  shape_by true r a below = refl
  shape_by false r a below = refl

  shape_is : (st : Start) (v : ℤ) (r : PlainStrand) → settled_by st v r ≡ record r { top = (settled_by st v r).top; below = (settled_by st v r).below }
  shape_is Root v r = refl
  shape_is (Behind d k) v r = shape_by (length r.path - d == 0) r (settled k v r.top) (settled_below (length r.path - d - 1) k v r.below)

  -- the left's beginning, seen from the right's topmost instance
  start_joined : (st sr : Start) (v : ℤ) (ph : Phase) (path over : Place) (x y : NamedStart) → ((d c n : ℕ) → c ≤ d → IsWithin ph d n → IsWithin ph c n) → ((d n : ℕ) → IsWithin ph d n → d ≤ n)
      → over ≡ place_of_start y → IsStart st (phase.Leaving v) over x → IsStart sr ph path y → IsStart st ph path x
  start_joined st Root v ph path over x root closed within e h i =
      let none : length over ≡ 0 = ap length e in
      start_moved st (phase.Leaving v) ph over path x (λ d w. absurd (omega arith)) h
  start_joined st Root v ph path over x (behind m j) closed within e h i = absurd i
  start_joined st (Behind c k) v ph path over x root closed within e h i = absurd i
  start_joined st (Behind c k) v ph path over x (behind m j) closed within e h i =
      let le : c ≤ length path = within c (length path) i.2 in
      let long : length m ≡ c = ap length i.0 ∙ length-take-le c path le in
      let whole : length over ≡ length m + 1 = ap length e ∙ length-append m (j ∷ []) in
      start_moved st (phase.Leaving v) ph over path x
      (λ d w.
      let less : d ≤ length m = omega arith in
      let fewer : d ≤ c = omega arith in
      (ap (take d) e ∙ take-append-le d m (j ∷ []) less ∙ ap (take d) i.0 ∙ take-take d c path fewer, closed c d (length path) fewer i.2)) h

  from_cond : {A : Type 0} (b : Bool) (a z : A) → cond b (Some a) None ≡ Some z → (b ≡ true) × (a ≡ z)
  from_cond true a z e = (refl, cc)
  from_cond false a z e = absurd cc

  -- a layer that keeps is a memo instance's that is around others, or a thief's lowest
  nests_where_kept : (st : Start) (lower : List PlainLayer) (keeps : Bool) (os : List PlainOpened) → length os ≡ length lower → AreNested setting.codes os → IsKept setting st lower keeps → keeps ≡ true → may_nest setting.codes ≡ true
  nests_where_kept Root [] keeps os long n h e = absurd (let c : true ≡ false = sym e ∙ h in cc)
  nests_where_kept (Behind d k) [] keeps os long n h e = sym h ∙ e
  nests_where_kept st (m ∷ lower) keeps [] long n h e = absurd (omega (arith, long))
  nests_where_kept st (m ∷ lower) keeps (o ∷ os) long n h e = n

  -- so the one layer of a strand that begins behind a child keeps too
  kept_behind_child : (st : Start) (lower : List PlainLayer) (keeps : Bool) → lower ≡ [] → IsBehind st → IsKept setting st lower keeps → may_nest setting.codes ≡ true → keeps ≡ true
  kept_behind_child Root lower keeps none b h e = absurd b
  kept_behind_child (Behind d k) [] keeps none b h e = h ∙ e
  kept_behind_child (Behind d k) (m ∷ lower) keeps none b h e = absurd cc

  top_multiplied : (st sr : Start) (l r : PlainLayer) (lower below : List PlainLayer) (ls ns : List Notes) (os : List PlainOpened) → length os ≡ length lower → AreNested setting.codes os → below ≡ [] → IsBehind sr → AreNotes setting st (l ∷ lower) ls → AreNotes setting sr (r ∷ below) ns
      → AreNotes setting st (multiplied l r ∷ lower) (joined_layers setting.program.tree ls ns)
  top_multiplied st sr l r lower below [] ns os long n e b h i = absurd h
  top_multiplied st sr l r lower below (a ∷ ls) [] os long n e b h i = absurd i
  top_multiplied st sr l r lower below (a ∷ ls) (c ∷ ns) os long n e b h i =
      (notes_multiplied setting l a h.0 r c (λ keeps. kept_behind_child sr below r.keeps e b i.0.keeps (nests_where_kept st lower l.keeps os long n h.0.keeps keeps)) i.0, h.1)

  both_counted : (a b : PlainTally) (t u : Tally) → IsTally setting a t → IsTally setting b u → IsTally setting (plain_tallies_joined a b) (tallies_joined t u)
  both_counted a b t u h i = record {
    opened = h.opened;
    made = records_append setting t.made u.made a.made b.made h.made i.made;
    executed = ap₂ (λ m n. m + n) h.executed i.executed;
    reused = ap₂ (λ m n. m + n) h.reused i.reused;
    unrecorded = ap₂ (λ m n. m + n) h.unrecorded i.unrecorded;
  }

  module _ (l r : PlainStrand) (x y : LayeredStrand) (t u : Tally) (v : ℤ) (lower : r.lower ≡ []) (behind_child : IsBehind r.start) (nested : AreNested setting.codes l.tally.opened) (long : length l.tally.opened ≡ length l.lower) (begins : IsStart l.start (phase.Leaving v) l.path x.start) (hl : AreNotes setting l.start (l.layer ∷ l.lower) x.layers) (hr : AreNotes setting r.start (r.layer ∷ r.lower) y.layers)
      (counted : IsTally setting (plain_tallies_joined l.tally r.tally) (tallies_joined t u)) (named : x.frame.instance ≡ l.path) where
    abbrev right : Phase → PlainStrand
    right ph = record r { phase = ph }

    -- the right strand, settled
    abbrev after : Phase → PlainStrand
    after ph = record r { start = l.start; layer = multiplied l.layer r.layer; lower = l.lower; top = (settled_by r.start v (right ph)).top; below = (settled_by r.start v (right ph)).below; phase = ph; tally = plain_tallies_joined l.tally r.tally }

    abbrev pair : LayeredStrand
    pair = strands.joined setting.program.tree x v y

    goes_on : (ph : Phase) → IsNotAtSpawn ph → ((f : Fault) → ph ≡ phase.Broken f → ⊥) → Settles r.path r.top r.below x.frame.instance v (settled_by r.start v (right ph)) → StandsAt setting ph r.below (right ph) y
        → StandsAt setting ph (after ph).below (after ph) pair
    goes_on phase.Entering n b s h = record { child = h.child; new = s.new r.arguments h.child h.new; phase = h.phase; frame = ap (settled_frame x.frame.instance v) h.frame ∙ s.frame; under = s.under y.under h.under }
    goes_on phase.Running n b s h = record { todo = h.todo; left = s.todo h.todo h.left; phase = h.phase; frame = ap (settled_frame x.frame.instance v) h.frame ∙ s.frame; under = s.under y.under h.under }
    goes_on phase.AtSpawn n b s h = absurd n
    goes_on (phase.Returning w) n b s h = record { phase = h.phase; frame = ap (settled_frame x.frame.instance v) h.frame ∙ s.frame; under = s.under y.under h.under }
    goes_on (phase.Leaving w) n b s h = record { phase = h.phase; frame = ap (settled_frame x.frame.instance v) h.frame ∙ s.frame; under = s.under y.under h.under }
    goes_on (phase.Broken f) n b s h = absurd (b f refl)

    ended_pair : (ph : Phase) → ((d c n : ℕ) → c ≤ d → IsWithin ph d n → IsWithin ph c n) → ((d n : ℕ) → IsWithin ph d n → d ≤ n) → IsNotAtSpawn ph → ((f : Fault) → ph ≡ phase.Broken f → ⊥)
        → IsStart r.start ph r.path y.start → StandsAt setting ph r.below (right ph) y → same_name x.frame.instance (place_of_start y.start) ≡ true
        → StandsFor setting (joined_ended l v (right ph)) pair (tallies_joined t u)
    ended_pair ph closed within n b i h same =
        let there : x.frame.instance ≡ place_of_start y.start = same_is x.frame.instance (place_of_start y.start) same in
        subst (λ s. StandsFor setting (record s { start = l.start; layer = multiplied l.layer r.layer; lower = l.lower; tally = plain_tallies_joined l.tally r.tally }) pair (tallies_joined t u)) (sym (shape_is r.start v (right ph)))
        (record {
          start = start_joined l.start r.start v ph r.path l.path x.start y.start closed within (sym named ∙ there) begins i;
          layers = top_multiplied l.start r.start l.layer r.layer l.lower r.lower x.layers y.layers l.tally.opened long nested lower behind_child hl hr;
          tally = counted;
          now = goes_on ph n b (subst (λ e. Settles r.path r.top r.below e v (settled_by r.start v (right ph))) (sym there) (settles_by r.start ph (right ph) y.start v within i)) h;
        })

    module _ (z : LayeredStrand) where
      abbrev pair_by : NamedPhase → Option LayeredStrand
      pair_by q = joined_pair setting.program setting.tables setting.memory x (leaving v) y q

      ended_by : (ph : Phase) (q : NamedPhase) (c : Bool) → ((d c n : ℕ) → c ≤ d → IsWithin ph d n → IsWithin ph c n) → ((d n : ℕ) → IsWithin ph d n → d ≤ n) → IsNotAtSpawn ph → ((f : Fault) → ph ≡ phase.Broken f → ⊥)
          → IsStart r.start ph r.path y.start → StandsAt setting ph r.below (right ph) y → cond (same_name x.frame.instance (place_of_start y.start) && c) (Some (strands.joined setting.program.tree x v y)) None ≡ Some z
          → StandsFor setting (joined_ended l v (right ph)) z (tallies_joined t u)
      ended_by ph q c closed within n b i h e =
          let both = from_cond (same_name x.frame.instance (place_of_start y.start) && c) (strands.joined setting.program.tree x v y) z e in
          subst (λ w. StandsFor setting (joined_ended l v (right ph)) w (tallies_joined t u)) both.1
          (ended_pair ph closed within n b i h (left_true (same_name x.frame.instance (place_of_start y.start)) c both.0))

      by_right : (ph : Phase) → IsNotAtSpawn ph → IsStart r.start ph r.path y.start → StandsAt setting ph r.below (right ph) y → pair_by y.phase ≡ Some z → StandsFor setting (joined_after ph l v (right ph)) z (tallies_joined t u)
      by_right phase.Entering n i h e =
          ended_by phase.Entering (entering h.child) _ (λ d c n le w. omega arith) (λ d n w. omega arith) n (λ f c. cc) i h (sym (ap pair_by h.phase) ∙ e)
      by_right phase.Running n i h e =
          ended_by phase.Running (running h.todo) _ (λ d c n le w. omega arith) (λ d n w. w) n (λ f c. cc) i h (sym (ap pair_by h.phase) ∙ e)
      by_right phase.AtSpawn n i h e = absurd n
      by_right (phase.Returning w) n i h e =
          ended_by (phase.Returning w) (returning w) _ (λ d c n le w. omega arith) (λ d n w. w) n (λ f c. cc) i h (sym (ap pair_by h.phase) ∙ e)
      by_right (phase.Leaving w) n i h e =
          ended_by (phase.Leaving w) (leaving w) _ (λ d c n le w. omega arith) (λ d n w. omega arith) n (λ f c. cc) i h (sym (ap pair_by h.phase) ∙ e)
      by_right (phase.Broken f) n i h e =
          let both = from_cond (same_name x.frame.instance (place_of_start y.start)) (broken_pair setting.program setting.tables setting.memory x y (named_fault setting f)) z (sym (ap pair_by h) ∙ e) in
          subst (λ w. StandsFor setting (joined_broken l (right (phase.Broken f)) f) w (tallies_joined t u)) both.1
          (record { start = start_moved l.start (phase.Leaving v) (phase.Broken f) l.path l.path x.start (λ d w. (refl, (omega arith))) begins; layers = hl; tally = counted; now = refl })

  module _ (l r : PlainStrand) (x y z : LayeredStrand) (n : IsNotAtSpawn r.phase) (lower : r.lower ≡ []) (behind_child : IsBehind r.start) (t u : Tally)
      (hl : StandsFor setting l x t) (hr : StandsFor setting r y u) where
    by_left : (ph : Phase) (below : List PlainActivation) → NestAt setting.codes ph l → IsLayeredAt ph l → IsStart l.start ph l.path x.start → StandsAt setting ph below l x → joined_pair setting.program setting.tables setting.memory x x.phase y y.phase ≡ Some z → StandsFor setting (joined_at ph l r) z (tallies_joined t u)
    by_left (phase.Broken f) below nested long i h e =
        let same : Some (broken_pair setting.program setting.tables setting.memory x y (named_fault setting f)) ≡ Some z = sym (ap (λ p. joined_pair setting.program setting.tables setting.memory x p y y.phase) h) ∙ e in
        subst (λ w. StandsFor setting (joined_broken l r f) w (tallies_joined t u)) (let q : broken_pair setting.program setting.tables setting.memory x y (named_fault setting f) ≡ z = cc in q) (record { start = i; layers = hl.layers; tally = both_counted l.tally r.tally t u hl.tally hr.tally; now = refl })
    by_left (phase.Leaving v) below nested long i h e =
        by_right l r x y t u v lower behind_child nested long i hl.layers hr.layers (both_counted l.tally r.tally t u hl.tally hr.tally) (ap (λ fr. fr.instance) h.frame) z r.phase n hr.start hr.now (sym (ap (λ p. joined_pair setting.program setting.tables setting.memory x p y y.phase) h.phase) ∙ e)
    by_left phase.Entering below nested long i h e = let none : None ≡ Some z = sym (ap (λ p. joined_pair setting.program setting.tables setting.memory x p y y.phase) h.phase) ∙ e in absurd cc
    by_left phase.Running below nested long i h e = let none : None ≡ Some z = sym (ap (λ p. joined_pair setting.program setting.tables setting.memory x p y y.phase) h.phase) ∙ e in absurd cc
    by_left phase.AtSpawn [] nested long i h e = absurd h
    by_left phase.AtSpawn (p ∷ below) nested long i h e = let none : None ≡ Some z = sym (ap (λ p. joined_pair setting.program setting.tables setting.memory x p y y.phase) h.phase) ∙ e in absurd cc
    by_left (phase.Returning w) below nested long i h e = let none : None ≡ Some z = sym (ap (λ p. joined_pair setting.program setting.tables setting.memory x p y y.phase) h.phase) ∙ e in absurd cc

  pub joined_is : (l r : PlainStrand) → IsJoined setting l r (joined l r)
  joined_is l r x y z t u n lower behind_child nested long hl hr e = by_left l r x y z n lower behind_child t u hl hr l.phase l.below nested long hl.start hl.now e
