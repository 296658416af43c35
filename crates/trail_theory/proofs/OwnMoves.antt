-- Each move of a strand leaves it the owner of its open layers, whatever other strands and continuations have.
use Rattle.std.proofs.Common.{ℕ, List, [], ◌∷◌, ◌++◌, ℤ, ◌≡◌, inl, inr, refl, sym, ap, ◌∙◌, subst, append_assoc, true, false, Bool, suc, ◌+◌, arith, length, length-append, append-nil, nat_eq, eqb-true, eq-eqb}
use Rattle.meaning.specs.Tree.{Tree}
use Rattle.meaning.specs.Tables.{Tables}
use Rattle.meaning.specs.Outcome.{Log, Accumulators, Outcome, Place, Syncs, Leaves}
use Rattle.meaning.specs.Records.{Revised}
use Rattle.meaning.specs.Trail.{trail_at}
use Rattle.meaning.specs.SmallStep.{same_name, Start, root, behind, is_entry, Frame, Phase, entering, running, spawning, returning, leaving, broken, Parent, with_layer, noting, opening_one, closing_one, Step, moved, taken, paused, unless, leaving_layer, Lookup, look_of, Continuation, micro}
use Rattle.meaning.specs.Layers.{Notes, noted_top}
use Rattle.meaning.specs.LayeredStrand.{LayeredStrand, advanced, advance_with}
use Rattle.meaning.specs.Tallies.{Opened, Tally, executions, opened_all, closed_by, tallied}
use Rattle.trail_theory.specs.Order.{In, Every, LeavesInOrder}
use Rattle.trail_theory.specs.ReadsAtEnd.{ReadsAtMainsEnd}
use Rattle.trail_theory.specs.SerialRest.{Beside, phase_walk, below}
use Rattle.trail_theory.specs.TaskFits.{Higher, Spot, Fringe}
use Rattle.trail_theory.specs.Right.{stretch, LayersFit, Logged, IsOneLayer, full_rest, RightAt}
use Rattle.trail_theory.specs.OpenLayers.{recorded_by, recorded_under, recorded_in, IsTopLayer, ClosesTop, OpenFit, OpenAt, EnteredSince, IsTallied}
use Rattle.trail_theory.specs.OwedLayers.{parents_behind, opened_names, Unbroken, IsOver, OwesLayers}
use Rattle.trail_theory.specs.OwnLayers.{IsAround, AreAround, AreOver, Stands, NotLeft, is_top, is_top_by_length, KnowsTop, frame_by, strand_by, frame_by_name, by_name, OpenIsTop, TopByLength}
use Rattle.trail_theory.proofs.Places.{in_left, in_right, same_name_refl, both_ways, spot_above}
use Rattle.trail_theory.proofs.Order.{trail_ordered, ordered_across}
use Rattle.trail_theory.proofs.Joins.{same_name_true}
use Rattle.trail_theory.proofs.Openings.{LayersKept}
use Rattle.trail_theory.proofs.OpenFits.{passed_opened, opening_executes}
use Rattle.trail_theory.proofs.TalliedSteps.{micro_layers}
use Rattle.trail_theory.proofs.OwedLayers.{over_itself, over_not_above, closes_top}
use Rattle.trail_theory.proofs.OwedSteps.{unbroken_both, one_of}
use Rattle.trail_theory.proofs.OwnLayers.{around_apart, around_over, above_around, all_over, all_further, all_through, all_apart, every_around, every_over, over_not_sooner, none_among, among_top, StepStands, micro_stands}

-- ---- a strand's flag, and its top layer's name

top_named : (os : List Opened) (n : Place) → is_top os n ≡ true → IsTopLayer os n
top_named [] n e = absurd cc
top_named (o ∷ os) n e = same_name_true o.instance n e

top_unnamed : (os : List Opened) (n : Place) → is_top os n ≡ false → IsTopLayer os n → ⊥
top_unnamed [] n e h = h
top_unnamed (o ∷ os) n e h = both_ways (same_name o.instance n) (rw h (same_name_refl n)) e

pub closes_named : (m : Start) (fr : Frame) (ph : Phase) (os : List Opened) → ClosesTop m (frame_by_name ph os fr) ph os
closes_named m fr (entering child) os = tt
closes_named m fr (running todo) os = tt
closes_named m fr (spawning d x child todo) os = tt
closes_named m fr (returning v) os = λ e h. top_named os fr.instance e
closes_named m fr (leaving v) os = tt
closes_named m fr (broken k) os = tt

pub knows_named : (m : Start) (fr : Frame) (ph : Phase) (os : List Opened) → KnowsTop m (frame_by_name ph os fr) ph os
knows_named m fr (entering child) os = tt
knows_named m fr (running todo) os = tt
knows_named m fr (spawning d x child todo) os = tt
knows_named m fr (returning v) os = λ h. (top_named os fr.instance, top_unnamed os fr.instance)
knows_named m fr (leaving v) os = tt
knows_named m fr (broken k) os = tt

pub closes_known : (m : Start) (fr : Frame) (ph : Phase) (os : List Opened) → KnowsTop m fr ph os → ClosesTop m fr ph os
closes_known m fr (entering child) os h = tt
closes_known m fr (running todo) os h = tt
closes_known m fr (spawning d x child todo) os h = tt
closes_known m fr (returning v) os h = λ e q. (h q).0 e
closes_known m fr (leaving v) os h = tt
closes_known m fr (broken k) os h = tt

pub stands_named : (fr : Frame) (ph : Phase) (os : List Opened) → Stands fr.instance ph os → Stands (frame_by_name ph os fr).instance ph os
stands_named fr (entering child) os h = h
stands_named fr (running todo) os h = h
stands_named fr (spawning d x child todo) os h = h
stands_named fr (returning v) os h = h
stands_named fr (leaving v) os h = h
stands_named fr (broken k) os h = h

-- ---- flags and names

same_flag : (os : List Opened) (n : Place) (b r : Bool) → is_top os n ≡ b → (r ≡ true → IsTopLayer os n) × (r ≡ false → IsTopLayer os n → ⊥) → b ≡ r
same_flag os n true true e h = refl
same_flag os n false false e h = refl
same_flag os n true false e h = absurd (h.1 refl (top_named os n e))
same_flag os n false true e h = absurd (top_unnamed os n e (h.0 refl))

pub same_frame : (m : Start) (fr : Frame) (ph : Phase) (os : List Opened) → Fringe m fr.instance fr.next ph → is_entry m fr.instance ≡ false → KnowsTop m fr ph os → frame_by_name ph os fr ≡ fr
same_frame m fr (entering child) os f e h = refl
same_frame m fr (running todo) os f e h = refl
same_frame m fr (spawning d x child todo) os f e h = refl
same_frame m fr (returning v) os f e h = ap (λ b. with_layer b fr) (same_flag os fr.instance (is_top os fr.instance) fr.recorded refl (h (spot_above m fr.instance fr.next f e)))
same_frame m fr (leaving v) os f e h = refl
same_frame m fr (broken k) os f e h = refl

-- an instance without a layer hasn't the name of the top one
not_top : (n : Place) (names left : List Place) (os : List Opened) → Every (IsAround n) names → names ≡ opened_names os ++ left → IsTopLayer os n → ⊥
not_top n names left [] h e top = top
not_top n names left (o ∷ os) h e top = around_apart n o.instance (subst (Every (IsAround n)) e h).0 (sym top)

knows_at : (m : Start) (fr : Frame) (ph : Phase) (t : List Parent) (right left : List Place) (os : List Opened) → ClosesTop m fr ph os → Unbroken ph (recorded_in fr ph t ++ right ≡ opened_names os ++ left) → Every (IsAround fr.instance) (recorded_under t ++ right) → KnowsTop m fr ph os
knows_at m fr (entering child) t right left os c e h = tt
knows_at m fr (running todo) t right left os c e h = tt
knows_at m fr (spawning d x child todo) t right left os c e h = tt
knows_at m fr (returning v) t right left os c e h = λ q. ((λ r. c r q), (λ r. not_top fr.instance (recorded_under t ++ right) left os h (subst (λ b. recorded_by b fr.instance (recorded_under t) ++ right ≡ opened_names os ++ left) r e)))
knows_at m fr (leaving v) t right left os c e h = tt
knows_at m fr (broken k) t right left os c e h = tt

pub knows_owed : (s : LayeredStrand) (ks : List Continuation) (t : Tally) (left right : List Place) → OwesLayers s ks t left right → Every (IsAround s.frame.instance) (recorded_under (s.under ++ parents_behind ks) ++ right) → KnowsTop s.start s.frame s.phase t.opened
knows_owed s ks t left right o h = knows_at s.start s.frame s.phase (s.under ++ parents_behind ks) right left t.opened (closes_top s ks t left right o) o.balance h

-- ---- names by their lengths

same_length : (n o p : Place) → n ≡ o ++ p → length o ≡ length n → o ≡ n
same_length n o [] e l = sym (e ∙ append-nil o)
same_length n o (c ∷ p) e l =
    let a : length n ≡ length (o ++ c ∷ p) = ap length e in
    let b : length (o ++ c ∷ p) ≡ length o + length (c ∷ p) = length-append o (c ∷ p) in
    let d : length (c ∷ p) ≡ suc (length p) = refl in
    absurd (omega (arith, a, b, d, l))

pub by_length : (n : Place) (os : List Opened) → AreOver n os → TopByLength n os
by_length n [] h = tt
by_length n (o ∷ os) h = same_length n o.instance h.0.path h.0.is

tests_agree : (o n : Place) (b : Bool) → nat_eq (length o) (length n) ≡ b → (length o ≡ length n → o ≡ n) → b ≡ same_name o n
tests_agree o n true e h = sym (subst (λ w. same_name w n ≡ true) (sym (h (eqb-true (length o) (length n) e))) (same_name_refl n))
tests_agree o n false e h = unlike (same_name o n) refl
  where
    unlike : (c : Bool) → same_name o n ≡ c → false ≡ c
    unlike false q = refl
    unlike true q = absurd (both_ways (nat_eq (length o) (length n)) (eq-eqb (length o) (length n) (ap length (same_name_true o n q))) e)

pub same_tests : (n : Place) (os : List Opened) → TopByLength n os → is_top_by_length os n ≡ is_top os n
same_tests n [] h = refl
same_tests n (o ∷ os) h = tests_agree o.instance n (nat_eq (length o.instance) (length n)) refl h

-- an instance around another has a shorter name
shorter : (n o : Place) → IsAround n o → length o ≡ length n → o ≡ n
shorter n o h l = same_length n o (h.child ∷ h.path) h.is l

top_length : (n : Place) (b : Bool) (ns right left : List Place) (os : List Opened) → recorded_by b n ns ++ right ≡ opened_names os ++ left → Every (IsAround n) (ns ++ right) → TopByLength n os
top_length n b ns right left [] e h = tt
top_length n true ns right left (o ∷ os) e h = λ l. sym (let q : n ≡ o.instance = cc in q)
top_length n false ns right left (o ∷ os) e h = shorter n o.instance (subst (Every (IsAround n)) e h).0

lengths_at : (fr : Frame) (ph : Phase) (t : List Parent) (right left : List Place) (os : List Opened) → Unbroken ph (recorded_in fr ph t ++ right ≡ opened_names os ++ left) → Every (IsAround fr.instance) (recorded_under t ++ right) → frame_by is_top_by_length ph os fr ≡ frame_by is_top ph os fr
lengths_at fr (entering child) t right left os e h = refl
lengths_at fr (running todo) t right left os e h = refl
lengths_at fr (spawning d x child todo) t right left os e h = refl
lengths_at fr (returning v) t right left os e h = ap (λ b. with_layer b fr) (same_tests fr.instance os (top_length fr.instance fr.recorded (recorded_under t) right left os e h))
lengths_at fr (leaving v) t right left os e h = refl
lengths_at fr (broken k) t right left os e h = refl

pub lengths_owed : (s : LayeredStrand) (ks : List Continuation) (t : Tally) (left right : List Place) → OwesLayers s ks t left right → Every (IsAround s.frame.instance) (recorded_under (s.under ++ parents_behind ks) ++ right) → strand_by is_top_by_length s t ≡ by_name s t
lengths_owed s ks t left right o h =
    ap (λ (f : Frame). record { start = s.start; layers = s.layers; frame = f; phase = s.phase; under = s.under }) (lengths_at s.frame s.phase (s.under ++ parents_behind ks) right left t.opened o.balance h)

-- ---- a strand at its entry, or at main

pub unbroken_over : (n : Place) (ph : Phase) (os : List Opened) → Stands n ph os → Unbroken ph (AreOver n os)
unbroken_over n (entering child) os h = all_over n os h
unbroken_over n (running todo) os h = h
unbroken_over n (spawning d x child todo) os h = h
unbroken_over n (returning v) os h = h
unbroken_over n (leaving v) os h = all_over n os h
unbroken_over n (broken k) os h = tt

pub none_at_entry : (m : Start) (n : Place) (os : List Opened) → is_entry m n ≡ true → Every (EnteredSince m) os → AreOver n os → os ≡ []
none_at_entry root n os e high h = absurd cc
none_at_entry (behind m k) n [] e high h = refl
none_at_entry (behind m k) n (o ∷ os) e high h = absurd (over_not_above n o.instance k h.0 (subst (λ w. Higher (behind w k) o.instance) (same_name_true m n e) high.0.0))

over_main : (o p : Place) → [] ≡ o ++ p → o ≡ []
over_main [] p e = refl
over_main (c ∷ o) p e = absurd cc

pub none_at_main : (m : Start) (n : Place) (os : List Opened) → n ≡ [] → Every (EnteredSince m) os → AreOver n os → os ≡ []
none_at_main m n [] e high h = refl
none_at_main m n (o ∷ os) e high h = absurd (high.0.1 (over_main o.instance h.0.path (sym e ∙ h.0.is)))

-- ---- after a fold

fringe_over : (m : Place) (k : ℕ) (n : Place) (c : ℕ) → Spot (behind m k) n c → IsOver n m
fringe_over m k n c (inl h) = subst (λ w. IsOver w m) (sym h.0) (over_itself m)
fringe_over m k n c (inr h) = around_over n m (above_around m k n h)

pub stands_joined : (m : Place) (k : ℕ) (fr : Frame) (ph : Phase) (os : List Opened) → Fringe (behind m k) fr.instance fr.next ph → AreOver m os → Stands fr.instance ph os
stands_joined m k fr (entering child) os f h = all_further fr.instance m os (above_around m k fr.instance f) h
stands_joined m k fr (running todo) os f h = all_through fr.instance m os (fringe_over m k fr.instance fr.next f) h
stands_joined m k fr (spawning d x child todo) os f h = all_through fr.instance m os (fringe_over m k fr.instance fr.next f) h
stands_joined m k fr (returning v) os f h = all_through fr.instance m os (fringe_over m k fr.instance fr.next f) h
stands_joined m k fr (leaving v) os f h = all_further fr.instance m os (above_around m k fr.instance f) h
stands_joined m k fr (broken j) os f h = tt

pub open_is_top : (n : Place) (ph : Phase) (os : List Opened) → Stands n ph os → OpenIsTop ph n os
open_is_top n (entering child) os h = none_among n os (every_around n os h)
open_is_top n (running todo) os h = among_top n os h
open_is_top n (spawning d x child todo) os h = among_top n os h
open_is_top n (returning v) os h = among_top n os h
open_is_top n (leaving v) os h = none_among n os (every_around n os h)
open_is_top n (broken k) os h = tt

-- ---- none has left

still_open : (n : Place) (out : Outcome) (es more : Log) (os : List Opened) → LeavesInOrder (es ++ more) → In (Leaves n out) more → Every (λ o. IsOver n o.instance) os → NotLeft es os
still_open n out es more [] order i h = tt
still_open n out es more (o ∷ os) order i h = ((λ w j. over_not_sooner n o.instance h.0 (ordered_across es more o.instance w order j n out i)), still_open n out es more os order i h.1)

not_left_later : (a b : Log) (os : List Opened) → NotLeft (a ++ b) os → NotLeft b os
not_left_later a b [] h = tt
not_left_later a b (o ∷ os) h = ((λ w i. h.0 w (in_right (Leaves o.instance w) a b i)), not_left_later a b os h.1)

module _ (program : Revised) (tables : Tables) (sight : Accumulators) (lookup : Lookup) where
  abbrev P : Tree
  P = program.tree

  -- ---- a step

  stands_by : (m : Start) (ns : List Place) (ls : List Notes) (fr : Frame) (ph : Phase) (t : List Parent) (y : Tally) (kit : Bool) (acc : Accumulators) (st : Step) → LayersKept P lookup m ns st → StepStands P tables lookup kit acc y.opened st → Stands fr.instance ph y.opened
      → (let s = advanced P (record { start = m; layers = ls; frame = fr; phase = ph; under = t }) st in Stands s.frame.instance s.phase (tallied program ls st y).opened)
  stands_by m ns ls fr ph t y kit acc (moved noting evs fr' ph' t') c h was = subst (Stands fr'.instance ph') (sym (passed_opened (executions evs) y)) h
  stands_by m ns ls fr ph t y kit acc (moved opening_one evs fr' ph' t') c h was =
      let op = c.1.1 in
      let ex : executions evs ≡ (op.of, op.args) ∷ [] = ap executions op.events ∙ opening_executes P tables sight lookup op.ahead fr'.left op.of op.args fr'.instance op.told op.memo op.unanswered in
      subst (λ ks. Stands fr'.instance ph' (opened_all fr' ks y).opened) (sym ex) (h (record { of = op.of; args = op.args; left = fr'.left; instance = fr'.instance }) refl)
  stands_by m ns ls fr ph t y kit acc (moved closing_one evs fr' ph' t') c h was = absurd c
  stands_by m ns ls fr ph t y kit acc (taken evs r fr' ph' t') c h was = h
  stands_by m ns ls fr ph t y kit acc (paused j) c h was = was

  closed_around : (B : Log) (os : List Opened) (ls : List Notes) (ss : List Log) (n : Place) (v : ℤ) (y : Tally) → OpenFit P tables sight lookup B os ss → LayersFit P ls ss → IsTopLayer os n → AreOver n os → AreAround n (closed_by program os (noted_top ls (Syncs n ∷ [])) (leaving v) y).opened
  closed_around B [] ls ss n v y fit fits top h = absurd top
  closed_around B (o ∷ os) ls [] n v y fit fits top h = absurd fit
  closed_around B (o ∷ os) [] (s ∷ ss) n v y fit fits top h = absurd fits
  closed_around B (o ∷ os) (l ∷ ls) (s ∷ ss) n v y fit fits top h = subst (λ w. AreAround w os) top h.1

  module _ (ruled : ReadsAtMainsEnd P) (kit : Bool) (acc : Accumulators) where
    stands_return : (m : Start) (ls : List Notes) (fr : Frame) (v : ℤ) (t : List Parent) (y : Tally) (B : Log) (ss : List Log) → OpenFit P tables sight lookup B y.opened ss → LayersFit P ls ss → AreOver fr.instance y.opened
        → (b r : Bool) → (b ≡ false → (r ≡ true → IsTopLayer y.opened fr.instance) × (r ≡ false → IsTopLayer y.opened fr.instance → ⊥))
        → (let st = unless b (moved (leaving_layer P tables lookup kit acc r) (Syncs fr.instance ∷ []) (with_layer false fr) (leaving v) t) in let s = advanced P (record { start = m; layers = ls; frame = fr; phase = returning v; under = t }) st in Stands s.frame.instance s.phase (tallied program ls st y).opened)
    stands_return m ls fr v t y B ss fit fits h true r top = h
    stands_return m ls fr v t y B ss fit fits h false false top = all_apart fr.instance y.opened h ((top refl).1 refl)
    stands_return m ls fr v t y B ss fit fits h false true top = closed_around B y.opened ls ss fr.instance v y fit fits ((top refl).0 refl) h

    stands_at : (m : Start) (ls : List Notes) (fr : Frame) (ph : Phase) (t : List Parent) (y : Tally) → (let s : LayeredStrand = record { start = m; layers = ls; frame = fr; phase = ph; under = t } in IsTallied program tables sight lookup s y → Stands fr.instance ph y.opened → KnowsTop m fr ph y.opened
        → (let w = advance_with P tables lookup kit acc s in Stands w.frame.instance w.phase (tallied program ls (micro P tables lookup kit acc m fr ph t) y).opened))
    stands_at m ls fr (entering child) t y h k top = stands_by m _ ls fr (entering child) t y kit acc _ (micro_layers program tables sight lookup ruled kit acc m ls fr (entering child) t tt h.right h.shallow) (micro_stands P tables lookup kit acc y.opened m fr (entering child) t tt h.right.task.stacked k) k
    stands_at m ls fr (running todo) t y h k top = stands_by m _ ls fr (running todo) t y kit acc _ (micro_layers program tables sight lookup ruled kit acc m ls fr (running todo) t tt h.right h.shallow) (micro_stands P tables lookup kit acc y.opened m fr (running todo) t tt h.right.task.stacked k) k
    stands_at m ls fr (spawning d x child todo) t y h k top = k
    stands_at m ls fr (returning v) t y h k top = stands_return m ls fr v t y h.right.before h.right.segments h.opens h.right.logged k (is_entry m fr.instance) fr.recorded (λ e. top (spot_above m fr.instance fr.next h.right.task.fringe e))
    stands_at m ls fr (leaving v) t y h k top = stands_by m _ ls fr (leaving v) t y kit acc _ (micro_layers program tables sight lookup ruled kit acc m ls fr (leaving v) t tt h.right h.shallow) (micro_stands P tables lookup kit acc y.opened m fr (leaving v) t tt h.right.task.stacked k) k
    stands_at m ls fr (broken j) t y h k top = tt

    pub stands_advance : (s : LayeredStrand) (y : Tally) → IsTallied program tables sight lookup s y → Stands s.frame.instance s.phase y.opened → KnowsTop s.start s.frame s.phase y.opened
        → (let w = advance_with P tables lookup kit acc s in Stands w.frame.instance w.phase (tallied program s.layers (micro P tables lookup kit acc s.start s.frame s.phase s.under) y).opened)
    stands_advance s y h k top = stands_at s.start s.layers s.frame s.phase s.under y h k top

  -- ---- the flag of an instance that returns is no matter to a tallied strand

  abbrev pub named_right : (m : Start) (ls : List Notes) (fr : Frame) (v : ℤ) (t : List Parent) (b : Bool) → RightAt P tables sight lookup m ls fr (returning v) t → RightAt P tables sight lookup m ls (with_layer b fr) (returning v) t
  named_right m ls fr v t b h =
      let F = h.task.frame_fits in
      record {
        before = h.before;
        segments = h.segments;
        beyond = h.beyond;
        top = h.top;
        others = h.others;
        is_trail = h.is_trail;
        starts = h.starts;
        layered = h.layered;
        logged = h.logged;
        task = record { frame_fits = record { waiting = F.waiting; orderly = tt; slots = F.slots; doomed = F.doomed }; under_fits = h.task.under_fits; fringe = h.task.fringe; stacked = h.task.stacked };
        inside = h.inside;
        reads = h.reads;
      }

  named_at : (m : Start) (ls : List Notes) (fr : Frame) (ph : Phase) (t : List Parent) (y : Tally) → (let s : LayeredStrand = record { start = m; layers = ls; frame = fr; phase = ph; under = t } in IsTallied program tables sight lookup s y → IsTallied program tables sight lookup (by_name s y) y)
  named_at m ls fr (entering child) t y h = h
  named_at m ls fr (running todo) t y h = h
  named_at m ls fr (spawning d x child todo) t y h = h
  named_at m ls fr (returning v) t y h = record { right = named_right m ls fr v t (is_top y.opened fr.instance) h.right; opens = h.opens; high = h.high; shallow = h.shallow; counted = h.counted; made = h.made }
  named_at m ls fr (leaving v) t y h = h
  named_at m ls fr (broken k) t y h = h

  pub named_tallied : (s : LayeredStrand) (y : Tally) → IsTallied program tables sight lookup s y → IsTallied program tables sight lookup (by_name s y) y
  named_tallied s y h = named_at s.start s.layers s.frame s.phase s.under y h

  -- ---- the order of leavings

  rest_leaves : (fr : Frame) (ph : Phase) (t : List Parent) (g : Beside) (gs : List Beside) (more : Log) → In (Leaves fr.instance (phase_walk P tables sight (look_of lookup) fr ph g).outcome) (full_rest P tables sight lookup fr ph t g gs ++ more)
  rest_leaves fr ph t g gs more =
      let w = phase_walk P tables sight (look_of lookup) fr ph g in
      let e = Leaves fr.instance w.outcome in
      let last = (below P tables sight (look_of lookup) t gs w.outcome).events in
      in_left e ((w.events ++ e ∷ []) ++ last) more (in_left e (w.events ++ e ∷ []) last (in_right e w.events (e ∷ []) (inl refl)))

  pub not_left : (s : LayeredStrand) (y : Tally) (h : IsTallied program tables sight lookup s y) → AreOver s.frame.instance y.opened → NotLeft (stretch h.right.segments) y.opened
  not_left s y h k =
      let r = h.right in
      let X = full_rest P tables sight lookup s.frame s.phase s.under r.top r.others ++ r.beyond in
      let e : (r.before ++ stretch r.segments) ++ X ≡ trail_at P tables sight (look_of lookup) = append_assoc r.before (stretch r.segments) X ∙ r.is_trail in
      let order : LeavesInOrder ((r.before ++ stretch r.segments) ++ X) = subst LeavesInOrder (sym e) (trail_ordered P tables sight (look_of lookup)) in
      not_left_later r.before (stretch r.segments) y.opened (still_open s.frame.instance _ (r.before ++ stretch r.segments) X y.opened order (rest_leaves s.frame s.phase s.under r.top r.others r.beyond) (every_over s.frame.instance y.opened k))

  one_open : (ph : Phase) (B : Log) (os : List Opened) (ls : List Notes) (ss : List Log) → OpenAt P tables sight lookup ph B os ss → Logged P ph ls ss → Unbroken ph (os ≡ []) → Unbroken ph (IsOneLayer ls)
  one_open (entering child) B os ls ss fit fits e = one_of program tables sight lookup B os ls ss e fit fits
  one_open (running todo) B os ls ss fit fits e = one_of program tables sight lookup B os ls ss e fit fits
  one_open (spawning d x child todo) B os ls ss fit fits e = one_of program tables sight lookup B os ls ss e fit fits
  one_open (returning v) B os ls ss fit fits e = one_of program tables sight lookup B os ls ss e fit fits
  one_open (leaving v) B os ls ss fit fits e = one_of program tables sight lookup B os ls ss e fit fits
  one_open (broken k) B os ls ss fit fits e = tt

  pub one_by : (s : LayeredStrand) (y : Tally) → IsTallied program tables sight lookup s y → Unbroken s.phase (y.opened ≡ []) → Unbroken s.phase ((y.opened ≡ []) × IsOneLayer s.layers)
  one_by s y h e = unbroken_both s.phase (y.opened ≡ []) (IsOneLayer s.layers) e (one_open s.phase h.right.before y.opened s.layers h.right.segments h.opens h.right.logged e)

  -- ---- one layer more than open ones

  pub one_more_layer : (B : Log) (os : List Opened) (ls : List Notes) (ss : List Log) → OpenFit P tables sight lookup B os ss → LayersFit P ls ss → length ls ≡ suc (length os)
  one_more_layer B [] ls [] fit fits = absurd fit
  one_more_layer B [] [] (s ∷ []) fit fits = absurd fits
  one_more_layer B [] (l ∷ []) (s ∷ []) fit fits = refl
  one_more_layer B [] (l ∷ k ∷ ls) (s ∷ []) fit fits = absurd fits.1
  one_more_layer B [] ls (s ∷ r ∷ ss) fit fits = absurd fit
  one_more_layer B (o ∷ os) ls [] fit fits = absurd fit
  one_more_layer B (o ∷ os) [] (s ∷ ss) fit fits = absurd fits
  one_more_layer B (o ∷ os) (l ∷ ls) (s ∷ ss) fit fits = ap suc (one_more_layer B os ls ss fit.1 fits.1)

  pub layers_count : (ph : Phase) (B : Log) (os : List Opened) (ls : List Notes) (ss : List Log) → OpenAt P tables sight lookup ph B os ss → Logged P ph ls ss → Unbroken ph (length ls ≡ suc (length os))
  layers_count (entering child) B os ls ss fit fits = one_more_layer B os ls ss fit fits
  layers_count (running todo) B os ls ss fit fits = one_more_layer B os ls ss fit fits
  layers_count (spawning d x child todo) B os ls ss fit fits = one_more_layer B os ls ss fit fits
  layers_count (returning v) B os ls ss fit fits = one_more_layer B os ls ss fit fits
  layers_count (leaving v) B os ls ss fit fits = one_more_layer B os ls ss fit fits
  layers_count (broken k) B os ls ss fit fits = tt
