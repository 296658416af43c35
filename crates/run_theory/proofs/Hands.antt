-- Values in hand, in the names that wait for them.
use Rattle.std.proofs.Common.{ℕ, suc, ℤ, List, [], ◌∷◌, ◌++◌, map, Option, Some, None, Ok, Err, ◌≡◌, ◌⊎◌, inl, inr, refl, sym, ap, ap₂, ◌∙◌, subst, true, false, Bool, cond}
use Rattle.meaning.specs.Tree.{Tree}
use Rattle.meaning.specs.Outcome.{Log, Fault, Place, Leaves}
use Rattle.meaning.specs.Values.{Env}
use Rattle.meaning.specs.Trail.{child_of}
use Rattle.meaning.specs.SmallStep.{Slot, unset, waits, has, seen, slot, same_name, Frame, Parent, with_env}
use Rattle.meaning.specs.LayeredStrand.{settle_slot, settled_frame, settled_under}
use Rattle.meaning.specs.Rest.{values_of}
use Rattle.meaning.specs.RestOfRun.{Hand, with_hand, with_hand_under}
use Rattle.trail_theory.specs.Order.{In, LeavesInOrder}
use Rattle.trail_theory.specs.SerialRest.{Beside}
use Rattle.trail_theory.specs.TaskFits.{SlotFits, same, late, lost, EnvFits, DoomFits, sound, hit, UnderFits}
use Rattle.trail_theory.proofs.Places.{order_strict, same_name_refl}
use Rattle.trail_theory.proofs.Order.{ordered_across, ordered_tail}
use Rattle.strand_theory.proofs.Names.{same_name_true}
use Rattle.run_theory.proofs.Awaited.{SlotsWait, UnderWait}

-- ---- what a hand makes of instances

abbrev pub fill_slot : Hand → Place → Slot → Slot
fill_slot [] n s = s
fill_slot (h ∷ hs) n s = fill_slot hs n (settle_slot h.0 h.1 n s)

abbrev pub fill_env : Hand → Place → List Slot → List Slot
fill_env [] n env = env
fill_env (h ∷ hs) n env = fill_env hs n (map (settle_slot h.0 h.1 n) env)

abbrev pub filled_frame : Hand → Frame → Frame
filled_frame hand fr = with_env fr (fill_env hand fr.instance fr.env)

abbrev pub filled_parent : Hand → Parent → Parent
filled_parent hand p = record { frame = filled_frame hand p.frame; spawned = p.spawned; into = p.into; todo = p.todo }

abbrev pub filled : Hand → List Parent → List Parent
filled hand [] = []
filled hand (p ∷ t) = filled_parent hand p ∷ filled hand t

pub frame_filled : (hand : Hand) (fr : Frame) → with_hand hand fr ≡ filled_frame hand fr
frame_filled [] fr = refl
frame_filled (h ∷ hs) fr = frame_filled hs (settled_frame h.0 h.1 fr)

filled_none : (t : List Parent) → filled [] t ≡ t
filled_none [] = refl
filled_none (p ∷ t) = ap (λ u. p ∷ u) (filled_none t)

filled_more : (h : Place × ℤ) (hs : Hand) (t : List Parent) → filled hs (settled_under h.0 h.1 t) ≡ filled (h ∷ hs) t
filled_more h hs [] = refl
filled_more h hs (p ∷ t) = ap (λ u. filled_parent (h ∷ hs) p ∷ u) (filled_more h hs t)

pub under_filled : (hand : Hand) (t : List Parent) → with_hand_under hand t ≡ filled hand t
under_filled [] t = sym (filled_none t)
under_filled (h ∷ hs) t = under_filled hs (settled_under h.0 h.1 t) ∙ filled_more h hs t

pub filled_append : (hand : Hand) (t u : List Parent) → filled hand (t ++ u) ≡ filled hand t ++ filled hand u
filled_append hand [] u = refl
filled_append hand (p ∷ t) u = ap (λ w. filled_parent hand p ∷ w) (filled_append hand t u)

fill_none : (hand : Hand) (n : Place) → fill_env hand n [] ≡ []
fill_none [] n = refl
fill_none (h ∷ hs) n = fill_none hs n

fill_one : (hand : Hand) (n : Place) (s : Slot) (env : List Slot) → fill_env hand n (s ∷ env) ≡ fill_slot hand n s ∷ fill_env hand n env
fill_one [] n s env = refl
fill_one (h ∷ hs) n s env = fill_one hs n (settle_slot h.0 h.1 n s) (map (settle_slot h.0 h.1 n) env)

fill_unset : (hand : Hand) (n : Place) → fill_slot hand n unset ≡ unset
fill_unset [] n = refl
fill_unset (h ∷ hs) n = fill_unset hs n

fill_has : (hand : Hand) (n : Place) (v : ℤ) → fill_slot hand n (has v) ≡ has v
fill_has [] n v = refl
fill_has (h ∷ hs) n v = fill_has hs n v

-- names that have values
pub fill_new : (hand : Hand) (n : Place) (E : Env) → fill_env hand n (map slot E) ≡ map slot E
fill_new hand n [] = fill_none hand n
fill_new hand n (None ∷ E) = fill_one hand n unset (map slot E) ∙ ap₂ ◌∷◌ (fill_unset hand n) (fill_new hand n E)
fill_new hand n (Some v ∷ E) = fill_one hand n (has v) (map slot E) ∙ ap₂ ◌∷◌ (fill_has hand n v) (fill_new hand n E)

-- ---- the serial run's values

abbrev pub InHand : Hand → Place → Type 0
InHand [] c = ⊥
InHand (h ∷ hs) c = (h.0 ≡ c) ⊎ InHand hs c

-- each value in hand is the one that its child has left with
abbrev pub HandFits : Log → Hand → Type 0
HandFits D [] = Unit {0}
HandFits D (h ∷ hs) = In (Leaves h.0 (Ok h.1)) D × HandFits D hs

-- no instance has left with a fault
abbrev pub IsSpared : Log → Type 0
IsSpared D = (c : Place) (k : Fault) → In (Leaves c (Err k)) D → ⊥

-- beside the serial run, with the values in hand
abbrev pub SameUnder : Hand → List Parent → List Beside → Type 0
SameUnder hand [] [] = Unit {0}
SameUnder hand [] (g ∷ gs) = ⊥
SameUnder hand (p ∷ t) [] = ⊥
SameUnder hand (p ∷ t) (g ∷ gs) = (values_of (fill_env hand p.frame.instance p.frame.env) ≡ g.env) × ((g.doom ≡ None) × SameUnder hand t gs)

left_once : (D : Log) (c : Place) (v w : ℤ) → LeavesInOrder D → In (Leaves c (Ok v)) D → In (Leaves c (Ok w)) D → v ≡ w
left_once [] c v w o i j = absurd i
left_once (e ∷ D) c v w o (inl p) (inl q) = let r : Leaves c (Ok v) ≡ Leaves c (Ok w) = p ∙ sym q in cc
left_once (e ∷ D) c v w o (inl p) (inr j) = absurd (order_strict c (ordered_across (e ∷ []) D c (Ok v) o (inl p) c (Ok w) j))
left_once (e ∷ D) c v w o (inr i) (inl q) = absurd (order_strict c (ordered_across (e ∷ []) D c (Ok w) o (inl q) c (Ok v) i))
left_once (e ∷ D) c v w o (inr i) (inr j) = left_once D c v w (ordered_tail e D o) i j

not_same : (a b : Place) → same_name a b ≡ false → b ≡ a → ⊥
not_same a b e q = let r : same_name a b ≡ true = subst (λ w. same_name a w ≡ true) (sym q) (same_name_refl a) in let f : true ≡ false = sym r ∙ e in cc

module _ (D : Log) (order : LeavesInOrder D) where
  fill_waiting : (hand : Hand) (n : Place) (j : ℕ) (v : ℤ) → In (Leaves (child_of n j) (Ok v)) D → HandFits D hand → InHand hand (child_of n j) → fill_slot hand n (waits j) ≡ has v
  fill_waiting [] n j v i f k = absurd k
  fill_waiting (h ∷ hs) n j v i f k = by (same_name (child_of n j) h.0) refl (λ z. fill_waiting hs n j v i f.1 z)
    where
      by : (b : Bool) → same_name (child_of n j) h.0 ≡ b → (InHand hs (child_of n j) → fill_slot hs n (waits j) ≡ has v) → fill_slot hs n (cond b (has h.1) (waits j)) ≡ has v
      by true e more =
          let q : child_of n j ≡ h.0 = same_name_true (child_of n j) h.0 e in
          fill_has hs n h.1 ∙ ap has (left_once D h.0 h.1 v order f.0 (subst (λ c. In (Leaves c (Ok v)) D) q i))
      by false e more = more (elim k [ inl q ↦ absurd (not_same (child_of n j) h.0 e q) | inr r ↦ r ])

  module _ (hand : Hand) (fits : HandFits D hand) (spared : IsSpared D) where
    slot_filled : (n : Place) (W : List ℕ) (x : ℕ) (s : Slot) (o : Option ℤ) → ((j : ℕ) → s ≡ waits j → InHand hand (child_of n j)) → SlotFits D n W x s o → seen (fill_slot hand n s) ≡ o
    slot_filled n W x unset o k (same e) = ap seen (fill_unset hand n) ∙ sym e
    slot_filled n W x (has v) o k (same e) = ap seen (fill_has hand n v) ∙ sym e
    slot_filled n W x (waits j) o k (same e) = absurd e
    slot_filled n W x (waits j) (Some v) k (late i w) = ap seen (fill_waiting hand n j v i fits (k j refl))
    slot_filled n W x (waits j) o k (lost f i w) = absurd (spared (child_of n j) f i)

    pub env_filled : (n : Place) (W : List ℕ) (x : ℕ) (env : List Slot) (E : Env) → SlotsWait (λ m j. InHand hand (child_of m j)) n env → EnvFits D n W x env E → values_of (fill_env hand n env) ≡ E
    env_filled n W x [] [] k h = ap values_of (fill_none hand n)
    env_filled n W x [] (o ∷ E) k h = absurd h
    env_filled n W x (s ∷ env) [] k h = absurd h
    env_filled n W x (s ∷ env) (o ∷ E) k h = ap values_of (fill_one hand n s env) ∙ ap₂ ◌∷◌ (slot_filled n W x s o k.0 h.0) (env_filled n W (suc x) env E k.1 h.1)

    pub doom_none : (n : Place) (d : Option Fault) → DoomFits D n d → d ≡ None
    doom_none n d sound = refl
    doom_none n d (hit j k i) = absurd (spared (child_of n j) k i)

    pub under_same : (program : Tree) (t : List Parent) (gs : List Beside) → UnderWait (λ m j. InHand hand (child_of m j)) t → UnderFits program D t gs → SameUnder hand t gs
    under_same program [] [] k h = tt
    under_same program [] (g ∷ gs) k h = absurd h
    under_same program (p ∷ t) [] k h = absurd h
    under_same program (p ∷ t) (g ∷ gs) k h =
        let f = h.0 in
        (env_filled p.frame.instance f.waiting 0 p.frame.env g.env k.0 f.slots, (doom_none p.frame.instance g.doom f.doomed, under_same program t gs k.1 h.1))

pub hand_more : (D E : Log) → ((c : Place) (v : ℤ) → In (Leaves c (Ok v)) D → In (Leaves c (Ok v)) E) → (hand : Hand) → HandFits D hand → HandFits E hand
hand_more D E k [] h = tt
hand_more D E k (x ∷ hand) h = (k x.0 x.1 h.0, hand_more D E k hand h.1)
