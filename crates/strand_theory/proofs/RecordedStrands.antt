-- Each move of a strand keeps its new records, its open layers and what it left without one the executions of its stretch.
use Rattle.std.proofs.Common.{ℕ, List, [], ◌∷◌, ◌++◌, Option, Ok, ℤ, ◌≡◌, refl, sym, ap, ap₂, ◌∙◌, subst, append_assoc, true, false, Bool}
use Rattle.meaning.specs.Tree.{Tree}
use Rattle.meaning.specs.Tables.{Tables}
use Rattle.meaning.specs.Outcome.{Log, Accumulators, Place, Syncs, Leaves}
use Rattle.meaning.specs.Records.{Revised}
use Rattle.meaning.specs.Statements.{beginning}
use Rattle.meaning.specs.Trail.{child_of, sight_of}
use Rattle.meaning.specs.SmallStep.{Start, behind, is_entry, Frame, Todo, Child, Phase, entering, running, spawning, returning, leaving, broken, Parent, with_layer, noting, opening_one, closing_one, Step, moved, taken, paused, unless, leaving_layer, Lookup, Continuation, place_of_continuation, micro}
use Rattle.meaning.specs.Layers.{Notes, noted_top, take_top, total}
use Rattle.meaning.specs.LayeredStrand.{LayeredStrand, advanced, first_layered, inlined, detached, resumed, stolen, joined, joined_layers, settled_frame, settled_under}
use Rattle.meaning.specs.Tallies.{Tally, no_tally, executions, tallied, tallies_joined}
use Rattle.trail_theory.specs.Order.{Every}
use Rattle.trail_theory.specs.ReadsAtEnd.{ReadsAtMainsEnd, KeepsRules}
use Rattle.trail_theory.specs.Right.{stretch, Layered, LayersFit, full_rest, Sees, RightAt, IsRightContinuation, RecordedAreSound, StretchesMultiply, NoneWaits, NoneWaitsUnder, MayJoin}
use Rattle.trail_theory.specs.OpenLayers.{recorded_in, IsShallow}
use Rattle.trail_theory.specs.TalliedTheorems.{advanced_now, tallied_now}
use Rattle.trail_theory.proofs.Keys.{executions_append, unmarked_keys}
use Rattle.trail_theory.proofs.Unmarked.{told_unmarked}
use Rattle.trail_theory.proofs.Evaluations.{Told}
use Rattle.trail_theory.proofs.Beginnings.{beginning_told}
use Rattle.trail_theory.proofs.KeepsStep.{Keeps}
use Rattle.trail_theory.proofs.Stepping.{micro_kept}
use Rattle.trail_theory.proofs.MainReads.{StepReads, micro_reads}
use Rattle.trail_theory.proofs.Openings.{LayersKept}
use Rattle.trail_theory.proofs.Ends.{first_right}
use Rattle.trail_theory.proofs.Advances.{grown, has_grown, stretch_grown, stretch_by, step_right, early_at, inline_right, detach_right}
use Rattle.trail_theory.proofs.Joins.{steal_right, pop_right, join_at}
use Rattle.trail_theory.proofs.ReadPoints.{sees_by_product}
use Rattle.trail_theory.proofs.TalliedSteps.{IsNotReturning, micro_layers}
use Rattle.strand_theory.proofs.Recorded.{IsRecordedBut, none_recorded, recorded_on, recorded_answered, recorded_passed, recorded_opened, recorded_closed, recorded_join}

-- ---- which events of a step are no executions

-- where a layer closes, and where a record answers
abbrev ExecutesNone : Step → Type 0
ExecutesNone (moved noting evs fr ph t) = Unit {0}
ExecutesNone (moved opening_one evs fr ph t) = Unit {0}
ExecutesNone (moved closing_one evs fr ph t) = executions evs ≡ []
ExecutesNone (taken evs k fr ph t) = executions evs ≡ []
ExecutesNone (paused p) = Unit {0}

told_executed : (es : Log) → Every Told es → executions es ≡ []
told_executed es h = sym (unmarked_keys [] es (told_unmarked es h)).executed_are

kept_executes : (program : Tree) (lookup : Lookup) (m : Start) (ns : List Place) (st : Step) → LayersKept program lookup m ns st → ExecutesNone st
kept_executes program lookup m ns (moved noting evs fr ph t) c = tt
kept_executes program lookup m ns (moved opening_one evs fr ph t) c = tt
kept_executes program lookup m ns (moved closing_one evs fr ph t) c = absurd c
kept_executes program lookup m ns (taken evs k fr ph t) c = told_executed evs c.1.1
kept_executes program lookup m ns (paused p) c = tt

leaving_executes : (program : Tree) (tables : Tables) (lookup : Lookup) (kit : Bool) (acc : Accumulators) (n : Place) (fr : Frame) (ph : Phase) (t : List Parent) (b r : Bool) → ExecutesNone (unless b (moved (leaving_layer program tables lookup kit acc r) (Syncs n ∷ []) fr ph t))
leaving_executes program tables lookup kit acc n fr ph t true r = tt
leaving_executes program tables lookup kit acc n fr ph t false true = refl
leaving_executes program tables lookup kit acc n fr ph t false false = tt

-- a strand's parts, with its tally
pub record RecordedAt (program : Tree) (tables : Tables) (sight : Accumulators) (lookup : Lookup) (m : Start) (ls : List Notes) (fr : Frame) (ph : Phase) (t : List Parent) (y : Tally) : Type 0 where
  pub right : RightAt program tables sight lookup m ls fr ph t
  pub recorded : IsRecordedBut y (stretch right.segments)

module _ (program : Revised) (tables : Tables) (sight : Accumulators) (lookup : Lookup) where
  abbrev P : Tree
  P = program.tree

  abbrev At : Start → List Notes → Frame → Phase → List Parent → Tally → Type 0
  At m ls fr ph t y = RecordedAt P tables sight lookup m ls fr ph t y

  -- a right strand that has recorded the executions of its stretch, but for as many as it counts
  abbrev pub Records : LayeredStrand → Tally → Type 0
  Records s y = At s.start s.layers s.frame s.phase s.under y

  -- a strand's parts by their equations
  pub at_parts : (s : LayeredStrand) (y : Tally) (m : Start) (ls : List Notes) (ph : Phase) (t : List Parent) → s.start ≡ m → s.layers ≡ ls → s.phase ≡ ph → s.under ≡ t → Records s y → At m ls s.frame ph t y
  at_parts s y m ls ph t a b c d h =
      subst (λ w. At m ls s.frame ph w y) d (subst (λ w. At m ls s.frame w s.under y) c (subst (λ w. At m w s.frame s.phase s.under y) b (subst (λ w. At w s.layers s.frame s.phase s.under y) a h)))

  -- no execution more, at the top of the stretch
  on_stretch : (y : Tally) (ss : List Log) (fs : Log) → Layered ss → IsRecordedBut y (stretch ss) → executions fs ≡ [] → IsRecordedBut y (stretch (grown P tables sight lookup ss fs))
  on_stretch y ss fs l h e = subst (IsRecordedBut y) (sym (stretch_grown P tables sight lookup ss fs l)) (recorded_on y (stretch ss) fs h e)

  pub first_records : Records (first_layered P) no_tally
  unfolding first_right
  first_records = record { right = first_right P tables sight lookup; recorded = recorded_on no_tally [] (beginning P) none_recorded (told_executed (beginning P) (beginning_told P)) }

  pub steal_records : (k : Continuation) → IsRightContinuation P tables sight lookup k → Records (stolen P k) no_tally
  unfolding steal_right
  steal_records k h = record { right = steal_right P tables sight lookup k h; recorded = none_recorded }

  inline_at : (m : Start) (ls : List Notes) (fr : Frame) (t : List Parent) (y : Tally) (d : ℕ) (x : Option ℕ) (child : Child) (todo : Todo) → At m ls fr (spawning d x child todo) t y
      → Records (inlined P (record { start = m; layers = ls; frame = fr; phase = spawning d x child todo; under = t }) d x child todo) y
  unfolding inline_right
  inline_at m ls fr t y d x child todo h = record { right = inline_right P tables sight lookup m ls fr t d x child todo h.right; recorded = on_stretch y h.right.segments _ h.right.layered h.recorded refl }

  detach_at : (m : Start) (ls : List Notes) (fr : Frame) (t : List Parent) (y : Tally) (d : ℕ) (x : Option ℕ) (child : Child) (todo : Todo) → At m ls fr (spawning d x child todo) t y
      → Records (detached P (record { start = m; layers = ls; frame = fr; phase = spawning d x child todo; under = t }) d child) y
  unfolding detach_right
  detach_at m ls fr t y d x child todo h = record { right = detach_right P tables sight lookup m ls fr t d x child todo h.right; recorded = on_stretch y h.right.segments _ h.right.layered h.recorded refl }

  pop_at : (ls : List Notes) (fr : Frame) (v : ℤ) (k : Continuation) (y : Tally) → fr.instance ≡ place_of_continuation k → At k.since ls fr (leaving v) [] y → IsRightContinuation P tables sight lookup k
      → Records (resumed P (record { start = k.since; layers = ls; frame = fr; phase = leaving v; under = [] }) k v) y
  unfolding pop_right
  pop_at ls fr v k y e h g = record { right = pop_right P tables sight lookup ls fr v k e h.right g; recorded = on_stretch y h.right.segments _ h.right.layered h.recorded refl }

  join_records_at : StretchesMultiply P tables sight lookup → (s : Start) (ls : List Notes) (frl : Frame) (v : ℤ) (m : Place) (k : ℕ) (lr : Notes) (fr : Frame) (ph : Phase) (t : List Parent) (y z : Tally) → z.opened ≡ []
      → At s ls frl (leaving v) [] y → At (behind m k) (lr ∷ []) fr ph t z → frl.instance ≡ child_of m k → NoneWaits s (settled_frame frl.instance v fr) → NoneWaitsUnder s (settled_under frl.instance v t)
      → At s (take_top P lr ls) (settled_frame frl.instance v fr) ph (settled_under frl.instance v t) (tallies_joined y z)
  unfolding join_at
  join_records_at law s ls frl v m k lr fr ph t y z none hl hr named check checks =
      let behind_it : IsRecordedBut z (Leaves frl.instance (Ok v) ∷ stretch hr.right.segments) = record { passed = hr.recorded.passed; counted = hr.recorded.counted; each = hr.recorded.each } in
      record {
        right = join_at P tables sight lookup law s ls frl v m k lr fr ph t hl.right hr.right named check checks;
        recorded = subst (IsRecordedBut (tallies_joined y z)) (sym (stretch_grown P tables sight lookup hl.right.segments (Leaves frl.instance (Ok v) ∷ stretch hr.right.segments) hl.right.layered)) (recorded_join y z (stretch hl.right.segments) (Leaves frl.instance (Ok v) ∷ stretch hr.right.segments) none hl.recorded behind_it);
      }

  -- ---- as moves of whole strands

  pub inline_records : (s : LayeredStrand) (y : Tally) (d : ℕ) (x : Option ℕ) (child : Child) (todo : Todo) → s.phase ≡ spawning d x child todo → Records s y → Records (inlined P s d x child todo) y
  inline_records s y d x child todo e h = inline_at s.start s.layers s.frame s.under y d x child todo (at_parts s y _ _ _ _ refl refl e refl h)

  pub detach_records : (s : LayeredStrand) (y : Tally) (d : ℕ) (x : Option ℕ) (child : Child) (todo : Todo) → s.phase ≡ spawning d x child todo → Records s y → Records (detached P s d child) y
  detach_records s y d x child todo e h = detach_at s.start s.layers s.frame s.under y d x child todo (at_parts s y _ _ _ _ refl refl e refl h)

  pub pop_records : (s : LayeredStrand) (y : Tally) (k : Continuation) (v : ℤ) → s.phase ≡ leaving v → s.under ≡ [] → s.start ≡ k.since → s.frame.instance ≡ place_of_continuation k → Records s y → IsRightContinuation P tables sight lookup k → Records (resumed P s k v) y
  pop_records s y k v a b c d h g =
      let w = resumed P s k v in
      subst (λ m. At m w.layers w.frame w.phase w.under y) (sym c) (pop_at s.layers s.frame v k y d (at_parts s y _ _ _ _ c refl a b h) g)

  pub join_records : StretchesMultiply P tables sight lookup → (l r : LayeredStrand) (y z : Tally) (v : ℤ) (m : Place) (c : ℕ) (noted : Notes) → l.phase ≡ leaving v → l.under ≡ [] → r.start ≡ behind m c → l.frame.instance ≡ child_of m c → r.layers ≡ noted ∷ []
      → MayJoin l (joined P l v r) → z.opened ≡ [] → Records l y → Records r z → Records (joined P l v r) (tallies_joined y z)
  join_records law l r y z v m c noted a b d e f may none hl hr =
      let w = joined P l v r in
      let q = join_records_at law l.start l.layers l.frame v m c noted r.frame r.phase r.under y z none (at_parts l y _ _ _ _ refl refl a b hl) (at_parts r z _ _ _ _ d f refl refl hr) e may.0 may.1 in
      subst (λ ls. At l.start (joined_layers P l.layers ls) w.frame w.phase w.under (tallies_joined y z)) (sym f) q

  -- ---- small steps

  module _ (law : StretchesMultiply P tables sight lookup) where
    stretch_taken : (ss : List Log) (evs more : Log) → Layered ss → stretch (grown P tables sight lookup (grown P tables sight lookup ss evs) more) ≡ stretch ss ++ (evs ++ more)
    stretch_taken ss evs more l = stretch_grown P tables sight lookup (grown P tables sight lookup ss evs) more (has_grown P tables sight lookup ss evs l) ∙ ap (λ w. w ++ more) (stretch_grown P tables sight lookup ss evs l) ∙ append_assoc (stretch ss) evs more

    step_records : (m : Start) (ls : List Notes) (fr : Frame) (ph : Phase) (t : List Parent) (h : RightAt P tables sight lookup m ls fr ph t) → LayersFit P ls h.segments → (y : Tally) → IsRecordedBut y (stretch h.segments) → (st : Step)
        → (ReadsAtMainsEnd P → StepReads (h.before ++ stretch h.segments) st) → Keeps P tables sight lookup h.before m (full_rest P tables sight lookup fr ph t h.top h.others) st → ExecutesNone st
        → Records (advanced P (record { start = m; layers = ls; frame = fr; phase = ph; under = t }) st) (tallied program ls st y)
    unfolding step_right
    step_records m ls fr ph t h fits y c (moved noting evs fr' ph' t') reads k n =
        record {
          right = step_right P tables sight lookup law m ls fr ph t h fits (moved noting evs fr' ph' t') reads k;
          recorded = subst (IsRecordedBut _) (sym (stretch_by P tables sight lookup noting h.segments evs h.layered)) (recorded_passed y (stretch h.segments) evs c);
        }
    step_records m ls fr ph t h fits y c (moved opening_one evs fr' ph' t') reads k n =
        record {
          right = step_right P tables sight lookup law m ls fr ph t h fits (moved opening_one evs fr' ph' t') reads k;
          recorded = subst (IsRecordedBut _) (sym (stretch_by P tables sight lookup opening_one h.segments evs h.layered)) (recorded_opened fr' y (stretch h.segments) evs c);
        }
    step_records m ls fr ph t h fits y c (moved closing_one evs fr' ph' t') reads k n =
        record {
          right = step_right P tables sight lookup law m ls fr ph t h fits (moved closing_one evs fr' ph' t') reads k;
          recorded = subst (IsRecordedBut _) (sym (stretch_by P tables sight lookup closing_one h.segments evs h.layered)) (recorded_closed program (noted_top ls evs) ph' y (stretch h.segments) evs c n);
        }
    step_records m ls fr ph t h fits y c (taken evs r fr' ph' t') reads k n =
        record {
          right = step_right P tables sight lookup law m ls fr ph t h fits (taken evs r fr' ph' t') reads k;
          recorded = subst (IsRecordedBut _) (sym (stretch_taken h.segments evs k.events h.layered)) (recorded_answered y _ (recorded_on y (stretch h.segments) (evs ++ k.events) c (executions_append evs k.events ∙ ap₂ ◌++◌ n k.unexecuted)));
        }
    step_records m ls fr ph t h fits y c (paused p) reads k n = record { right = h; recorded = c }

    module _ (rules : KeepsRules P) (sound : RecordedAreSound P tables sight lookup) (kit : Bool) (acc : Accumulators) where
      abbrev Next : Start → List Notes → Frame → Phase → List Parent → Tally → Type 0
      Next m ls fr ph t y = let st = micro P tables lookup kit acc m fr ph t in Records (advanced P (record { start = m; layers = ls; frame = fr; phase = ph; under = t }) st) (tallied program ls st y)

      by_micro : (m : Start) (ls : List Notes) (fr : Frame) (ph : Phase) (t : List Parent) (h : RightAt P tables sight lookup m ls fr ph t) → LayersFit P ls h.segments → (y : Tally) → IsRecordedBut y (stretch h.segments) → Sees acc sight ph → ExecutesNone (micro P tables lookup kit acc m fr ph t) → Next m ls fr ph t y
      by_micro m ls fr ph t h fits y c sees n =
          step_records m ls fr ph t h fits y c (micro P tables lookup kit acc m fr ph t) (λ ruled. micro_reads P tables lookup ruled kit acc (h.before ++ stretch h.segments) m fr ph t (h.reads ruled))
          (micro_kept P tables sight lookup rules.waiting sound kit acc h.before m (early_at P tables sight lookup m ls fr ph t h) fr ph t h.top h.others h.task sees) n

      -- but for an instance's last sync
      by_layers : (m : Start) (ls : List Notes) (fr : Frame) (ph : Phase) (t : List Parent) (h : RightAt P tables sight lookup m ls fr ph t) → LayersFit P ls h.segments → (y : Tally) → IsRecordedBut y (stretch h.segments) → Sees acc sight ph → IsNotReturning ph → IsShallow fr ph t → Next m ls fr ph t y
      by_layers m ls fr ph t h fits y c sees n shallow = by_micro m ls fr ph t h fits y c sees (kept_executes P lookup m (recorded_in fr ph t) (micro P tables lookup kit acc m fr ph t) (micro_layers program tables sight lookup rules.reads kit acc m ls fr ph t n h shallow))

      advance_at : (m : Start) (ls : List Notes) (fr : Frame) (ph : Phase) (t : List Parent) (h : RightAt P tables sight lookup m ls fr ph t) (y : Tally) → IsRecordedBut y (stretch h.segments) → Sees acc sight ph → IsShallow fr ph t → Next m ls fr ph t y
      advance_at m ls fr (entering child) t h y c sees shallow = by_layers m ls fr (entering child) t h h.logged y c sees tt shallow
      advance_at m ls fr (running todo) t h y c sees shallow = by_layers m ls fr (running todo) t h h.logged y c sees tt shallow
      advance_at m ls fr (spawning d x child todo) t h y c sees shallow = record { right = h; recorded = c }
      advance_at m ls fr (returning v) t h y c sees shallow = by_micro m ls fr (returning v) t h h.logged y c sees (leaving_executes P tables lookup kit acc fr.instance (with_layer false fr) (leaving v) t (is_entry m fr.instance) fr.recorded)
      advance_at m ls fr (leaving v) t h y c sees shallow = by_layers m ls fr (leaving v) t h h.logged y c sees tt shallow
      advance_at m ls fr (broken k) t h y c sees shallow = record { right = h; recorded = c }

module _ (program : Revised) (tables : Tables) (lookup : Lookup) where
  abbrev S : Accumulators
  S = sight_of program.tree tables

  abbrev pub RecordsNow : LayeredStrand → Tally → Type 0
  RecordsNow s y = Records program tables S lookup s y

  -- the moves that ask for the program's laws keep it
  pub record RecordsStay : Type 0 where
    pub advances : (kit : Bool) (s : LayeredStrand) (y : Tally) → IsShallow s.frame s.phase s.under → RecordsNow s y → RecordsNow (advanced_now program tables lookup kit s) (tallied_now program tables lookup kit s y)
    pub joins : (l r : LayeredStrand) (y z : Tally) (v : ℤ) (m : Place) (c : ℕ) (noted : Notes) → l.phase ≡ leaving v → l.under ≡ [] → r.start ≡ behind m c → l.frame.instance ≡ child_of m c → r.layers ≡ noted ∷ [] → MayJoin l (joined program.tree l v r) → z.opened ≡ [] → RecordsNow l y → RecordsNow r z → RecordsNow (joined program.tree l v r) (tallies_joined y z)

  pub stay_recorded : StretchesMultiply program.tree tables S lookup → KeepsRules program.tree → RecordedAreSound program.tree tables S lookup → RecordsStay
  stay_recorded law rules sound =
      record {
        advances = λ kit s y shallow h. advance_at program tables S lookup law rules sound kit (total program.tree s.layers).worth s.start s.layers s.frame s.phase s.under h.right y h.recorded (sees_by_product program.tree tables lookup law rules.reads s h.right) shallow;
        joins = λ l r y z v m c noted a b d e f may none h k. join_records program tables S lookup law l r y z v m c noted a b d e f may none h k;
      }
