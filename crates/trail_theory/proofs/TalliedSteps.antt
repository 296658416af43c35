-- A small step keeps a tallied strand tallied: the layer that it opens begins with its instance's run, and the record of the one that it closes is sound.
use Rattle.std.proofs.Common.{ℕ, suc, ◌+◌, arith, length, ap₂, ◌<◌, List, [], ◌∷◌, ◌++◌, None, Ok, ℤ, ◌≡◌, inl, inr, refl, sym, ap, ◌∙◌, subst, append_assoc, true, false, Bool}
use Rattle.meaning.specs.Tree.{Tree}
use Rattle.meaning.specs.Tables.{Tables}
use Rattle.meaning.specs.Outcome.{Log, Accumulators, Place, Syncs, Leaves}
use Rattle.meaning.specs.Statements.{proc_of, fresh}
use Rattle.meaning.specs.Elision.{depth_limit}
use Rattle.meaning.specs.Records.{Revised, Key}
use Rattle.meaning.specs.Trail.{Look, opening, run, trail_at}
use Rattle.meaning.specs.SmallStep.{Start, is_entry, Frame, Child, instance, half, Phase, entering, running, spawning, returning, leaving, broken, Parent, first_todo, opened, with_layer, noting, opening_one, closing_one, Step, moved, taken, paused, unless, leaving_layer, Lookup, look_of, enter_step, micro}
use Rattle.meaning.specs.Layers.{SameNotes, Notes, notes, blank, noted_top, ahead_of_entry}
use Rattle.meaning.specs.LayeredStrand.{LayeredStrand, advanced, advance_with}
use Rattle.meaning.specs.Tallies.{Opened, Tally, executions, opened_all, answered_one, passed_all, closed_by, record_by, tallied}
use Rattle.trail_theory.specs.Counts.{reuses, IsCounted}
use Rattle.trail_theory.specs.Order.{Every}
use Rattle.trail_theory.specs.Waiting.{UsesNoWaitingName}
use Rattle.trail_theory.specs.ReadsAtEnd.{ReadsAtMainsEnd}
use Rattle.trail_theory.specs.SerialRest.{below}
use Rattle.trail_theory.specs.Right.{stretch, Layered, LayersFit, Sees, full_rest, RightAt, RecordedAreSound, StretchesMultiply}
use Rattle.trail_theory.specs.OpenLayers.{recorded_under, recorded_in, IsShallow, IsTopLayer, ClosesTop, RunsBehind, OpenFit, OpenAt, EnteredSince, IsNumbered, IsNewRecord, IsTallied}
use Rattle.trail_theory.proofs.Places.{IsEarly, every_append, spot_above}
use Rattle.trail_theory.proofs.Slots.{doom_passes}
use Rattle.trail_theory.proofs.KeepsStep.{Keeps, KeptBy}
use Rattle.trail_theory.proofs.Stepping.{noted_append, micro_kept}
use Rattle.trail_theory.specs.MainReads.{ChildReads}
use Rattle.trail_theory.proofs.Records.{recorded_other}
use Rattle.trail_theory.proofs.MainReads.{StepReads, micro_reads}
use Rattle.trail_theory.proofs.Advances.{grown, merged_top, stretch_grown, has_grown, stretch_by, step_right, early_at}
use Rattle.trail_theory.proofs.Openings.{told_reuses, OpensBy, Apart, LayersKept, enter_layers, todo_layers}
use Rattle.trail_theory.proofs.Keys.{executions_append, reuses_append, unmarked_keys}
use Rattle.trail_theory.proofs.Unmarked.{told_unmarked}
use Rattle.trail_theory.proofs.Evaluations.{Told}
use Rattle.trail_theory.proofs.Counted.{counted_more, counted_opened, counted_closed, passed_executed, passed_reused}
use Rattle.trail_theory.proofs.OpenFits.{opening_reuses_none, passed_opened, passed_made, env_same, grown_open, merged_open, open_any, opening_executes, opening_ahead, opening_goes}
use Rattle.trail_theory.proofs.ClosedLayers.{closing_sound}

no_more : (m n : ℕ) (xs : List Key) → m ≡ n → xs ≡ [] → m ≡ n + length xs
no_more m n xs e z = let l : length xs ≡ 0 = ap length z in omega (arith, e, l)

one_more : (n : ℕ) (xs : List Key) → length xs ≡ 1 → suc n ≡ n + length xs
one_more n xs l = omega (arith, l)

pub told_executed : (es : Log) → Every Told es → executions es ≡ []
told_executed es h = sym (unmarked_keys [] es (told_unmarked es h)).executed_are

open_regroup : (x s a o rest beyond r z : Log) → o ++ rest ≡ r ++ z → (x ++ (s ++ a)) ++ (r ++ (z ++ beyond)) ≡ x ++ (s ++ (((a ++ o) ++ rest) ++ beyond))
open_regroup x s a o rest beyond r z e =
    let q : x ++ (s ++ (a ++ ((r ++ z) ++ beyond))) ≡ x ++ (s ++ (a ++ ((o ++ rest) ++ beyond))) = ap (λ w. x ++ (s ++ (a ++ (w ++ beyond)))) (sym e) in
    simp append_assoc (simp append_assoc at q)

abbrev pub IsNotReturning : Phase → Type 0
IsNotReturning (returning v) = ⊥
IsNotReturning (entering child) = Unit {0}
IsNotReturning (running todo) = Unit {0}
IsNotReturning (spawning d x child todo) = Unit {0}
IsNotReturning (leaving v) = Unit {0}
IsNotReturning (broken k) = Unit {0}

module _ (program : Revised) (tables : Tables) (sight : Accumulators) (lookup : Lookup) where
  abbrev P : Tree
  P = program.tree

  abbrev L : Look
  L = look_of lookup

  abbrev T : Log
  T = trail_at P tables sight L

  -- a new layer begins with its instance's run
  module _ (m : Start) (B : Log) (early : IsEarly m B) where
    new_rest : (was evs : Log) (fr : Frame) (ph : Phase) (t : List Parent) (op : OpensBy P lookup m evs fr ph) (k : KeptBy P tables sight lookup B m was evs fr ph t)
        → full_rest P tables sight lookup fr ph t k.top k.others ≡ full_rest P tables sight lookup (with_layer true (opened P fr.left (instance op.of op.args) fr.instance)) (running (first_todo P (instance op.of op.args))) t (record { env = fresh (proc_of P op.of).names op.args; doom = None }) k.others
    new_rest was evs fr ph t op k =
        let f = k.task.frame_fits in
        let e : k.top.env ≡ fresh (proc_of P op.of).names op.args = env_same B fr.instance f.waiting 0 (fresh (proc_of P op.of).names op.args) k.top.env (rw (ap (λ x. x.env) op.frame) at f.slots) in
        let d : k.top.doom ≡ None = doom_passes m fr.instance B early op.high k.top.doom f.doomed in
        λ i. full_rest P tables sight lookup (op.frame i) (op.phase i) t (record { env = e i; doom = d i }) k.others

    new_runs : (x s beyond was evs : Log) (fr : Frame) (ph : Phase) (t : List Parent) → fr.left < depth_limit → (op : OpensBy P lookup m evs fr ph) → KeptBy P tables sight lookup B m was evs fr ph t → x ++ (s ++ (was ++ beyond)) ≡ T
        → RunsBehind P tables sight lookup (x ++ (s ++ ahead_of_entry evs)) (record { of = op.of; args = op.args; left = fr.left; instance = fr.instance })
    new_runs x s beyond was evs fr ph t deep op k e =
        let n = fr.instance in
        let r = run P tables sight fr.left L op.of op.args n in
        let z = (below P tables sight L t k.others r.outcome).events in
        let X = full_rest P tables sight lookup (with_layer true (opened P fr.left (instance op.of op.args) n)) (running (first_todo P (instance op.of op.args))) t (record { env = fresh (proc_of P op.of).names op.args; doom = None }) k.others in
        let ops = opening P L fr.left op.of op.args n in
        let a : ahead_of_entry evs ≡ op.ahead = ap ahead_of_entry op.events ∙ opening_ahead P tables sight lookup op.ahead fr.left op.of op.args n op.told in
        let w : was ≡ (op.ahead ++ ops) ++ X = k.goes_on ∙ (λ i. op.events i ++ new_rest was evs fr ph t op k i) in
        record {
          later = z ++ beyond;
          memo = op.memo;
          deep = deep;
          is_trail = ap (λ b. (x ++ (s ++ b)) ++ (r.events ++ (z ++ beyond))) a ∙ open_regroup x s op.ahead ops X beyond r.events z (opening_goes P tables sight lookup fr.left op.of op.args n t k.others op.memo op.unanswered) ∙ sym (ap (λ b. x ++ (s ++ (b ++ beyond))) w) ∙ e;
        }

  -- main is not recorded
  entered_apart : ReadsAtMainsEnd P → (m : Start) (done : Log) (child : Child) (n : Place) → ChildReads done n child → Apart P lookup m child n
  entered_apart ruled m done (instance f vs) n (inl h) = λ memo. h.0
  entered_apart ruled m done (instance f vs) n (inr h) = λ memo. absurd (recorded_other P tables sight lookup ruled f memo h.1.0)
  entered_apart ruled m done (half k job count i) n h = tt

  -- but for an instance's last sync, a step closes no layer
  pub micro_layers : ReadsAtMainsEnd P → (kit : Bool) (acc : Accumulators) (m : Start) (ls : List Notes) (fr : Frame) (ph : Phase) (t : List Parent) → IsNotReturning ph → RightAt P tables sight lookup m ls fr ph t → IsShallow fr ph t → LayersKept P lookup m (recorded_in fr ph t) (micro P tables lookup kit acc m fr ph t)
  micro_layers ruled kit acc m ls fr (entering child) t n h shallow =
      subst (λ f. LayersKept P lookup m (recorded_under t) (enter_step P tables lookup kit acc f child t)) (sym h.task.frame_fits.orderly) (enter_layers P lookup m tables kit acc fr.left child fr.instance t shallow.0 shallow.1.1 h.task.fringe (entered_apart ruled m (h.before ++ stretch h.segments) child fr.instance (h.reads ruled).0))
  micro_layers ruled kit acc m ls fr (running todo) t n h shallow = todo_layers P lookup m tables kit acc fr t shallow.0 shallow.1.1 h.task.fringe todo
  micro_layers ruled kit acc m ls fr (spawning d x child todo) t n h shallow = tt
  micro_layers ruled kit acc m ls fr (returning v) t n h shallow = absurd n
  micro_layers ruled kit acc m ls fr (leaving v) [] n h shallow = tt
  micro_layers ruled kit acc m ls fr (leaving v) (p ∷ t) n h shallow = ((shallow.1.1.0, (tt, shallow.1.1.1)), (refl, refl))
  micro_layers ruled kit acc m ls fr (broken k) t n h shallow = tt

  -- the layer that closes becomes a sound record, and the others are as they were
  module _ (ruled : ReadsAtMainsEnd P) (numbers : IsNumbered program) where
    closed_open : (B : Log) (os : List Opened) (ls : List Notes) (ss : List Log) (n : Place) (v : ℤ) (z : Log) (y : Tally) → OpenFit P tables sight lookup B os ss → LayersFit P ls ss → IsTopLayer os n → B ++ (stretch ss ++ (Syncs n ∷ Leaves n (Ok v) ∷ z)) ≡ T → Every (IsNewRecord program tables) y.made → (m : Start) → Every (EnteredSince m) os
        → OpenFit P tables sight lookup B (closed_by program os (noted_top ls (Syncs n ∷ [])) (leaving v) y).opened (merged_top P tables sight lookup (grown P tables sight lookup ss (Syncs n ∷ []))) × (Every (IsNewRecord program tables) (closed_by program os (noted_top ls (Syncs n ∷ [])) (leaving v) y).made × Every (EnteredSince m) (closed_by program os (noted_top ls (Syncs n ∷ [])) (leaving v) y).opened)
    closed_open B [] ls ss n v z y fit fits top e made m high = absurd top
    closed_open B (o ∷ os) ls [] n v z y fit fits top e made m high = absurd fit
    closed_open B (o ∷ os) [] (s ∷ ss) n v z y fit fits top e made m high = absurd fits
    closed_open B (o ∷ os) (l ∷ ls) (s ∷ ss) n v z y fit fits top e made m high =
        let here : B ++ ((stretch ss ++ s) ++ (Syncs o.instance ∷ Leaves o.instance (Ok v) ∷ z)) ≡ T = subst (λ p. B ++ ((stretch ss ++ s) ++ (Syncs p ∷ Leaves p (Ok v) ∷ z)) ≡ T) (sym top) e in
        let same : SameNotes l (notes P (s ++ Syncs o.instance ∷ [])) = subst (SameNotes l) (sym (noted_append (blank P) s (Syncs o.instance ∷ []))) fits.0 in (
          merged_open P tables sight lookup B o os (grown P tables sight lookup (s ∷ ss) (Syncs n ∷ [])) (grown_open P tables sight lookup B (o ∷ os) (s ∷ ss) (Syncs n ∷ []) fit),
          (every_append (IsNewRecord program tables) y.made (record_by program o l v ∷ []) made (closing_sound program tables sight lookup ruled numbers B s ss o v z l fit.0 here same, tt), high.1),
        )

  module _ (law : StretchesMultiply P tables sight lookup) (ruled : ReadsAtMainsEnd P) (numbers : IsNumbered program) where
    module _ (m : Start) (ls : List Notes) (fr : Frame) (ph : Phase) (t : List Parent) (h : RightAt P tables sight lookup m ls fr ph t) (fits : LayersFit P ls h.segments) (y : Tally) (fit : OpenFit P tables sight lookup h.before y.opened h.segments) (made : Every (IsNewRecord program tables) y.made) (shallow : IsShallow fr ph t) (high : Every (EnteredSince m) y.opened) (counted : IsCounted y (stretch h.segments)) where
      abbrev was : Log
      was = full_rest P tables sight lookup fr ph t h.top h.others

      abbrev s : LayeredStrand
      s = record { start = m; layers = ls; frame = fr; phase = ph; under = t }

      abbrev Stepped : Step → Type 0
      Stepped st = IsTallied program tables sight lookup (advanced P s st) (tallied program ls st y)

      abbrev Read : Step → Type 0
      Read st = ReadsAtMainsEnd P → StepReads (h.before ++ stretch h.segments) st

      stretch_taken : (ss : List Log) (evs more : Log) → Layered ss → stretch (grown P tables sight lookup (grown P tables sight lookup ss evs) more) ≡ stretch ss ++ (evs ++ more)
      stretch_taken ss evs more l = stretch_grown P tables sight lookup (grown P tables sight lookup ss evs) more (has_grown P tables sight lookup ss evs l) ∙ ap (λ w. w ++ more) (stretch_grown P tables sight lookup ss evs l) ∙ append_assoc (stretch ss) evs more

      step_tallied : (ns : List Place) (st : Step) → Read st → Keeps P tables sight lookup h.before m was st → LayersKept P lookup m ns st → Stepped st
      unfolding step_right
      step_tallied ns (moved noting evs fr' ph' t') reads k c =
          record {
            right = step_right P tables sight lookup law m ls fr ph t h fits (moved noting evs fr' ph' t') reads k;
            opens = open_any P tables sight lookup ph' h.before _ _ (subst (λ os. OpenFit P tables sight lookup h.before os (grown P tables sight lookup h.segments evs)) (sym (passed_opened (executions evs) y)) (grown_open P tables sight lookup h.before y.opened h.segments evs fit));
            high = subst (Every (EnteredSince m)) (sym (passed_opened (executions evs) y)) high;
            shallow = c.0;
            counted = subst (IsCounted (passed_all (executions evs) y)) (sym (stretch_by P tables sight lookup noting h.segments evs h.layered)) (counted_more y (passed_all (executions evs) y) (stretch h.segments) evs counted (passed_executed (executions evs) y) (no_more (passed_all (executions evs) y).reused y.reused (reuses evs) (passed_reused (executions evs) y) c.1.1) (passed_made (executions evs) y) (passed_opened (executions evs) y));
            made = subst (Every (IsNewRecord program tables)) (sym (passed_made (executions evs) y)) made;
          }
      step_tallied ns (moved opening_one evs fr' ph' t') reads k c =
          let op = c.1.1 in
          let ex : executions evs ≡ (op.of, op.args) ∷ [] = ap executions op.events ∙ opening_executes P tables sight lookup op.ahead fr'.left op.of op.args fr'.instance op.told op.memo op.unanswered in
          subst (λ ks. IsTallied program tables sight lookup (advanced P s (moved opening_one evs fr' ph' t')) (opened_all fr' ks y)) (sym ex) (record {
            right = step_right P tables sight lookup law m ls fr ph t h fits (moved opening_one evs fr' ph' t') reads k;
            opens = open_any P tables sight lookup ph' h.before _ _ (subst (λ w. RunsBehind P tables sight lookup (h.before ++ w) (record { of = op.of; args = op.args; left = fr'.left; instance = fr'.instance })) (sym (stretch_grown P tables sight lookup h.segments (ahead_of_entry evs) h.layered)) (new_runs m h.before (early_at P tables sight lookup m ls fr ph t h) h.before (stretch h.segments) h.beyond was evs fr' ph' t' c.0.0 op k h.is_trail), grown_open P tables sight lookup h.before y.opened h.segments (ahead_of_entry evs) fit);
            high = ((op.high, op.inside), high);
            shallow = c.0;
            counted = subst (IsCounted (opened_all fr' ((op.of, op.args) ∷ []) y)) (sym (stretch_by P tables sight lookup opening_one h.segments evs h.layered)) (counted_opened fr' op.of op.args y (stretch h.segments) evs counted ex (ap reuses op.events ∙ opening_reuses_none P tables sight lookup op.ahead fr'.left op.of op.args fr'.instance op.told op.memo op.unanswered));
            made = made;
          })
      step_tallied ns (moved closing_one evs fr' ph' t') reads k c = absurd c
      step_tallied ns (taken evs r fr' ph' t') reads k c =
          record {
            right = step_right P tables sight lookup law m ls fr ph t h fits (taken evs r fr' ph' t') reads k;
            opens = open_any P tables sight lookup ph' h.before _ _ (grown_open P tables sight lookup h.before y.opened _ k.events (grown_open P tables sight lookup h.before y.opened h.segments evs fit));
            high = high;
            shallow = c.0;
            counted = subst (IsCounted (answered_one y)) (sym (stretch_taken h.segments evs k.events h.layered)) (counted_more y (answered_one y) (stretch h.segments) (evs ++ k.events) counted (no_more y.executed y.executed (executions (evs ++ k.events)) refl (executions_append evs k.events ∙ ap₂ ◌++◌ (told_executed evs c.1.1) k.unexecuted)) (one_more y.reused (reuses (evs ++ k.events)) (ap length (reuses_append evs k.events ∙ ap (λ w. w ++ reuses k.events) (told_reuses evs c.1.1)) ∙ k.answered)) refl refl);
            made = made;
          }
      step_tallied ns (paused p) reads k c = record { right = h; opens = open_any P tables sight lookup ph h.before y.opened h.segments fit; high = high; shallow = shallow; counted = counted; made = made }

    -- an instance above the entry passes its last sync
    return_tallied : (kit : Bool) (acc : Accumulators) (m : Start) (ls : List Notes) (fr : Frame) (v : ℤ) (t : List Parent) (h : RightAt P tables sight lookup m ls fr (returning v) t) → (fits : LayersFit P ls h.segments) (y : Tally) (fit : OpenFit P tables sight lookup h.before y.opened h.segments) (made : Every (IsNewRecord program tables) y.made) (shallow : IsShallow fr (returning v) t) (high : Every (EnteredSince m) y.opened) (counted : IsCounted y (stretch h.segments)) → ClosesTop m fr (returning v) y.opened
        → (b r : Bool) → is_entry m fr.instance ≡ b → fr.recorded ≡ r → Read m ls fr (returning v) t h fits y fit made shallow high counted (unless b (moved (leaving_layer P tables lookup kit acc r) (Syncs fr.instance ∷ []) (with_layer false fr) (leaving v) t))
        → Keeps P tables sight lookup h.before m (was m ls fr (returning v) t h fits y fit made shallow high counted) (unless b (moved (leaving_layer P tables lookup kit acc r) (Syncs fr.instance ∷ []) (with_layer false fr) (leaving v) t))
        → Stepped m ls fr (returning v) t h fits y fit made shallow high counted (unless b (moved (leaving_layer P tables lookup kit acc r) (Syncs fr.instance ∷ []) (with_layer false fr) (leaving v) t))
    unfolding step_right
    return_tallied kit acc m ls fr v t h fits y fit made shallow high counted top true r e q reads k = record { right = h; opens = fit; high = high; shallow = shallow; counted = counted; made = made }
    return_tallied kit acc m ls fr v t h fits y fit made shallow high counted top false false e q reads k =
        step_tallied m ls fr (returning v) t h fits y fit made shallow high counted (recorded_under t) (moved noting (Syncs fr.instance ∷ []) (with_layer false fr) (leaving v) t) reads k ((shallow.0, (tt, shallow.1.1)), (refl, refl))
    return_tallied kit acc m ls fr v t h fits y fit made shallow high counted top false true e q reads k =
        let n = fr.instance in
        let z = (below P tables sight L t k.others (Ok v)).events ++ h.beyond in
        let here : h.before ++ (stretch h.segments ++ (Syncs n ∷ Leaves n (Ok v) ∷ z)) ≡ T = ap (λ w. h.before ++ (stretch h.segments ++ (w ++ h.beyond))) (sym k.goes_on) ∙ h.is_trail in
        let c = closed_open ruled numbers h.before y.opened ls h.segments n v z y fit fits (top q (spot_above m n fr.next h.task.fringe e)) here made m high in
        record {
          right = step_right P tables sight lookup law m ls fr (returning v) t h fits (moved closing_one (Syncs n ∷ []) (with_layer false fr) (leaving v) t) reads k;
          opens = c.0;
          high = c.1.1;
          shallow = (shallow.0, (tt, shallow.1.1));
          counted = subst (IsCounted (closed_by program y.opened (noted_top ls (Syncs n ∷ [])) (leaving v) y)) (sym (stretch_by P tables sight lookup closing_one h.segments (Syncs n ∷ []) h.layered)) (counted_closed program y.opened (noted_top ls (Syncs n ∷ [])) v y (stretch h.segments) (Syncs n ∷ []) refl counted refl refl);
          made = c.1.0;
        }

    module _ (checked : UsesNoWaitingName P) (is_sound : RecordedAreSound P tables sight lookup) (kit : Bool) (acc : Accumulators) where
      abbrev Next : Start → List Notes → Frame → Phase → List Parent → Tally → Type 0
      Next m ls fr ph t y = IsTallied program tables sight lookup (advance_with P tables lookup kit acc (record { start = m; layers = ls; frame = fr; phase = ph; under = t })) (tallied program ls (micro P tables lookup kit acc m fr ph t) y)

      by_layers : (ns : List Place) (m : Start) (ls : List Notes) (fr : Frame) (ph : Phase) (t : List Parent) (h : RightAt P tables sight lookup m ls fr ph t) → (fits : LayersFit P ls h.segments) (y : Tally) (fit : OpenFit P tables sight lookup h.before y.opened h.segments) (made : Every (IsNewRecord program tables) y.made) (shallow : IsShallow fr ph t) → Every (EnteredSince m) y.opened → IsCounted y (stretch h.segments)
          → Sees acc sight ph → LayersKept P lookup m ns (micro P tables lookup kit acc m fr ph t) → Next m ls fr ph t y
      by_layers ns m ls fr ph t h fits y fit made shallow high counted sees c =
          step_tallied m ls fr ph t h fits y fit made shallow high counted ns (micro P tables lookup kit acc m fr ph t) (λ ruled. micro_reads P tables lookup ruled kit acc (h.before ++ stretch h.segments) m fr ph t (h.reads ruled))
          (micro_kept P tables sight lookup checked is_sound kit acc h.before m (early_at P tables sight lookup m ls fr ph t h) fr ph t h.top h.others h.task sees) c

      advance_at : (m : Start) (ls : List Notes) (fr : Frame) (ph : Phase) (t : List Parent) (h : RightAt P tables sight lookup m ls fr ph t) (y : Tally) → OpenAt P tables sight lookup ph h.before y.opened h.segments → Every (EnteredSince m) y.opened → IsShallow fr ph t → IsCounted y (stretch h.segments) → Every (IsNewRecord program tables) y.made → ClosesTop m fr ph y.opened → Sees acc sight ph → Next m ls fr ph t y
      advance_at m ls fr (entering child) t h y fit high shallow counted made top sees =
          by_layers (recorded_under t) m ls fr (entering child) t h h.logged y fit made shallow high counted sees (micro_layers ruled kit acc m ls fr (entering child) t tt h shallow)
      advance_at m ls fr (running todo) t h y fit high shallow counted made top sees =
          by_layers (recorded_in fr (running todo) t) m ls fr (running todo) t h h.logged y fit made shallow high counted sees (micro_layers ruled kit acc m ls fr (running todo) t tt h shallow)
      advance_at m ls fr (spawning d x child todo) t h y fit high shallow counted made top sees = record { right = h; opens = fit; high = high; shallow = shallow; counted = counted; made = made }
      advance_at m ls fr (returning v) t h y fit high shallow counted made top sees =
          return_tallied kit acc m ls fr v t h h.logged y fit made shallow high counted top (is_entry m fr.instance) fr.recorded refl refl (λ ruled. micro_reads P tables lookup ruled kit acc (h.before ++ stretch h.segments) m fr (returning v) t (h.reads ruled))
          (micro_kept P tables sight lookup checked is_sound kit acc h.before m (early_at P tables sight lookup m ls fr (returning v) t h) fr (returning v) t h.top h.others h.task sees)
      advance_at m ls fr (leaving v) t h y fit high shallow counted made top sees =
          by_layers (recorded_under t) m ls fr (leaving v) t h h.logged y fit made shallow high counted sees (micro_layers ruled kit acc m ls fr (leaving v) t tt h shallow)
      advance_at m ls fr (broken k) t h y fit high shallow counted made top sees = record { right = h; opens = fit; high = high; shallow = shallow; counted = counted; made = made }

      pub advance_tallied : (s : LayeredStrand) (y : Tally) → IsTallied program tables sight lookup s y → ClosesTop s.start s.frame s.phase y.opened → Sees acc sight s.phase
          → IsTallied program tables sight lookup (advance_with P tables lookup kit acc s) (tallied program s.layers (micro P tables lookup kit acc s.start s.frame s.phase s.under) y)
      advance_tallied s y h top sees = advance_at s.start s.layers s.frame s.phase s.under h.right y h.opens h.high h.shallow h.counted h.made top sees
