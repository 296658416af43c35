-- The test by numbers of whether a name is left waiting is the definitions'.
use Rattle.std.proofs.Common.{◌≡◌, ℕ, ℤ, nat_lt, nat_eq, Bool, true, false, not, ◌&&◌, ◌||◌, cond, take, List, [], ◌∷◌, map, refl, ap, ap₂, ◌∙◌, subst}
use Rattle.meaning.specs.Every.{every}
use Rattle.meaning.specs.Outcome.{Place}
use Rattle.meaning.specs.Trail.{child_of}
use Rattle.meaning.specs.SmallStep.{Slot as NamedSlot, waits, has, Start as NamedStart, root, behind, same_name, Frame, Parent, leaving}
use Rattle.meaning.specs.LayeredStrand.{LayeredStrand, settle_slot, settled_frame, settled_under}
use Rattle.meaning.specs.Schedules.{would_wait, none_waits, none_waits_under}
use Rattle.meaning.specs.Schedules as definitions
use Rattle.evaluation.specs.declared.slot.Slot.{Slot}
use Rattle.evaluation.specs.declared.slot.Slot.TheVariants.{Unset, Waits, Has}
use Rattle.evaluation.specs.Slots.{meant}
use Rattle.positions.specs.declared.work.Work.{Work}
use Rattle.positions.specs.declared.work.Work.TheVariants.{Block, Over, Halves, Second, Turns}
use Rattle.positions.specs.declared.phase.Phase.{Phase}
use Rattle.positions.specs.declared.phase.Phase.TheVariants.{Leaving}
use Rattle.positions.specs.declared.phase.Paused.TheVariants as paused
use Rattle.positions.specs.declared.start.Start.{Start}
use Rattle.positions.specs.declared.start.Start.TheVariants.{Root, Behind}
use Rattle.positions.specs.Activations.{PlainActivation}
use Rattle.positions.specs.Setting.{Setting}
use Rattle.positions.specs.Advance.{pause_of}
use Rattle.positions.specs.Strands.{PlainStrand, shorter}
use Rattle.positions.specs.Stands.{IsStart, AreParents, IsAt, StandsAt, frame_of, slots_by}
use Rattle.activations.specs.Waiting.{leaves_before, ends_after, slots_that_wait, still_waits, none_still_waits, none_waits_in, none_waits_below, leaves_none}
use Rattle.right_strands.specs.Waiting.{DecidesWaiting}
use Rattle.right_strands.proofs.Points.{AtSync, at_statement, at_end, sync_is}

-- where a strand of that name begins
abbrev started_at : Start → Place → NamedStart
started_at Root path = root
started_at (Behind depth child) path = behind (take depth path) child

start_named : (st : Start) (ph : Phase) (path : List ℕ) (m : NamedStart) → IsStart st ph path m → m ≡ started_at st path
start_named Root ph path root h = refl
start_named Root ph path (behind m k) h = absurd h
start_named (Behind d c) ph path root h = absurd h
start_named (Behind d c) ph path (behind m k) h = ap₂ behind h.0 h.1

module _ (setting : Setting) where
  before_is : (m n : Place) → definitions.leaves_before setting.program setting.tables setting.memory m n ≡ leaves_before m n
  before_is [] n = refl
  before_is (a ∷ m) [] = refl
  before_is (a ∷ m) (b ∷ n) = ap (λ c. nat_lt a b || (nat_eq a b && c)) (before_is m n)

  after_is : (st : Start) (e c : Place) → definitions.ends_after setting.program setting.tables setting.memory (started_at st e) c ≡ ends_after st e c
  after_is Root e c = refl
  after_is (Behind d k) e c = before_is (child_of (take d e) k) c

module _ (setting : Setting) (st : Start) (e : Place) (v : ℤ) where
  abbrev Waits_by : Place → NamedSlot → Bool
  Waits_by n s = would_wait setting.program setting.tables setting.memory (started_at st e) n s

  cond_waits : (b : Bool) (n : Place) (j : ℕ) → Waits_by n (cond b (has v) (waits j)) ≡ not b && ends_after st e (child_of n j)
  cond_waits true n j = refl
  cond_waits false n j = after_is setting st e (child_of n j)

  slot_is : (n : Place) (s : Slot) → Waits_by n (settle_slot e v n (meant s)) ≡ still_waits st e n s
  slot_is n Unset = refl
  slot_is n (Waits j) = cond_waits (same_name (child_of n j) e) n j
  slot_is n (Has w) = refl

  slots_are : (n : Place) (slots : List Slot) → every (λ s. not (Waits_by n s)) (map (settle_slot e v n) (map meant slots)) ≡ none_still_waits st e n slots
  slots_are n [] = refl
  slots_are n (s ∷ slots) = ap₂ (λ a b. not a && b) (slot_is n s) (slots_are n slots)

  work_is : (n : Place) (w : Work) (slots : List Slot) → every (λ s. not (Waits_by n s)) (map (settle_slot e v n) (slots_by setting w slots)) ≡ none_still_waits st e n (slots_that_wait w slots)
  work_is n (Block q) slots = slots_are n slots
  work_is n Over slots = slots_are n slots
  work_is n (Halves l k h) slots = refl
  work_is n (Second l k h) slots = refl
  work_is n (Turns l h) slots = refl

  frame_is : (n : Place) (a : PlainActivation) → none_waits setting.program setting.tables setting.memory (started_at st e) (settled_frame e v (frame_of setting n a)) ≡ none_waits_in st e n a
  frame_is n a = work_is n a.work a.slots

  under_is : (over : Place) (below : List PlainActivation) (under : List Parent) → AreParents setting over below under → none_waits_under setting.program setting.tables setting.memory (started_at st e) (settled_under e v under) ≡ none_waits_below st e over below
  under_is over [] [] h = refl
  under_is over [] (p ∷ under) h = absurd h
  under_is over (a ∷ below) [] h = absurd h
  under_is over (a ∷ below) (p ∷ under) h =
      ap₂ ◌&&◌ (ap (λ (fr : Frame). none_waits setting.program setting.tables setting.memory (started_at st e) (settled_frame e v fr)) h.0.frame ∙ frame_is (shorter over) a) (under_is (shorter over) below under h.1)

module _ (setting : Setting) where
  -- the instances of a strand at a sync
  record HasInstances (r : PlainStrand) (y : LayeredStrand) : Type 0 where
    frame : y.frame ≡ frame_of setting r.path r.top
    under : AreParents setting r.path r.below y.under

  instances : (r : PlainStrand) (y : LayeredStrand) → AtSync r → StandsAt setting r.phase r.below r y → HasInstances r y
  instances r y (at_statement e) n = let i = subst (λ ph. StandsAt setting ph r.below r y) e n in record { frame = i.frame; under = i.under }
  instances r y (at_end v e) n = let i = subst (λ ph. StandsAt setting ph r.below r y) e n in record { frame = i.frame; under = i.under }

  pub waiting_decided : (l r : PlainStrand) (w : ℤ) → l.phase ≡ Leaving w → pause_of setting.codes r ≡ paused.AtSync → DecidesWaiting setting l r (leaves_none l r)
  waiting_decided l r w ph at x y t u v hl hr =
      let i : IsAt setting (leaving w) l.path l.top l.below x = subst (λ ph. StandsAt setting ph l.below l x) ph hl.now in
      let e : x.frame.instance ≡ l.path = ap (λ (fr : Frame). fr.instance) i.frame in
      let m : x.start ≡ started_at l.start l.path = start_named l.start l.phase l.path x.start hl.start in
      let n = instances r y (sync_is setting.codes r at) hr.now in
      ap₂ (λ m e. none_waits setting.program setting.tables setting.memory m (settled_frame e v y.frame) && none_waits_under setting.program setting.tables setting.memory m (settled_under e v y.under)) m e
      ∙ ap₂ ◌&&◌ (ap (λ (fr : Frame). none_waits setting.program setting.tables setting.memory (started_at l.start l.path) (settled_frame l.path v fr)) n.frame ∙ frame_is setting l.start l.path v r.path r.top)
      (under_is setting l.start l.path v r.path r.below y.under n.under)
