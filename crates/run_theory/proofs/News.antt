-- The layers and the new records of a run's strands, after any steps.
use Rattle.std.proofs.Common.{◌&&◌, ◌⊎◌, ◌++◌, append_assoc, zero, ℕ, suc, ℤ, List, [], ◌∷◌, length, Option, Some, None, ◌≡◌, inl, inr, refl, sym, ap, ◌∙◌, subst, true, false, Bool, cond, nat_lt}
use Rattle.meaning.specs.Tables.{Tables}
use Rattle.meaning.specs.Outcome.{Accumulators, Fault, Place}
use Rattle.meaning.specs.Records.{Revised}
use Rattle.meaning.specs.Trail.{child_of, sight_of}
use Rattle.meaning.specs.SmallStep.{Start, root, behind, same_name, Phase, entering, running, spawning, returning, leaving, broken, Parent, at_spawn, at_sync, returned, faulted, Step, moved, taken, paused, Continuation, place_of_continuation}
use Rattle.meaning.specs.Layers.{Notes}
use Rattle.meaning.specs.LayeredStrand.{LayeredStrand, advanced, stolen, joined}
use Rattle.meaning.specs.RestOfRun.{lowest}
use Rattle.meaning.specs.Strands.{BookStep, Fold}
use Rattle.meaning.specs.Strands as strands
use Rattle.meaning.specs.Tallies.{Tally, tallied}
use Rattle.meaning.specs.Schedules.{Memory, Piece, RunState, RunStep, Change, work, push, inline, pop, stall, steal, fold, first_state, place_of, place_of_start, is_held_by, is_idle, among, changed, step_of, worked_by, worked, pushed_at, pushed, inlined_at, inlined_of, popped_at, popped, robbed_of, stolen_from, left_by, stalled_by, stalled_at, stalled, may_join, broken_pair, joined_pair, folded_by, folded, folded_among, folded_at, after_step, or_same, path}
use Rattle.trail_theory.specs.Order.{Every}
use Rattle.trail_theory.specs.Right.{IsOneLayer}
use Rattle.trail_theory.specs.TaskFits.{Stacked}
use Rattle.trail_theory.specs.OpenLayers.{recorded_under, IsShallowContinuation, IsNewRecord, IsNumbered}
use Rattle.trail_theory.specs.OwedLayers.{parents_behind, recorded_of, Unbroken, IsOver, Precede, OwesLayers}
use Rattle.trail_theory.specs.TalliedTheorems.{IsTalliedNow, TalliedStays, LayersStayOwed}
use Rattle.trail_theory.proofs.Places.{every_append}
use Rattle.trail_theory.specs.AddingUp.{AddsUp}
use Rattle.trail_theory.proofs.AddingUp.{add_up}
use Rattle.trail_theory.specs.OwnLayers.{IsAround, OwnsNow, LayersStayOwn}
use Rattle.trail_theory.proofs.TalliedTheorems.{tallied_stay, layers_stay, entry_has_one}
use Rattle.trail_theory.proofs.OwedLayers.{any_unbroken}
use Rattle.trail_theory.proofs.OwnTheorems.{stay_own, flags_names}
use Rattle.run_theory.specs.RightRuns.{front, Begins, Links}
use Rattle.strand_theory.specs.Ready.{IsReady}
use Rattle.run_theory.specs.Theorems.{IsRightNow, PathsMakeNews, PathsOwnLayers}
use Rattle.strand_theory.proofs.Names.{both_are, same_name_true}
use Rattle.run_theory.proofs.Around.{stack_around, deque_around, start_around}
use Rattle.run_theory.proofs.Pieces.{ForSome, either}
use Rattle.run_theory.proofs.Ascending.{Gone}
use Rattle.run_theory.proofs.Telling.{broken_or}
use Rattle.strand_theory.proofs.Laws.{L}
use Rattle.run_theory.proofs.Steps.{FitPiece, FitAll, Whole, Pushed, worked_broken}
use Rattle.run_theory.proofs.Steals.{none_last, pushed_split}
use Rattle.strand_theory.proofs.Folds.{may_join_true}
use Rattle.run_theory.proofs.Folds.{over_of, stalled_of}
use Rattle.run_theory.proofs.Kits.{inner}
use Rattle.run_theory.proofs.Paths.{idle, kept_or, step_right, begins_right}
use Rattle.strand_theory.proofs.Laws.{law, sound}
use Rattle.strand_theory.proofs.RecordedStrands.{RecordsNow, RecordsStay, stay_recorded, first_records, steal_records, inline_records, detach_records, pop_records}

every_split : {A : Type 0} (P : A → Type 0) (a : List A) (x : A) → Every P (a ++ x ∷ []) → Every P a × P x
every_split P [] x h = (tt, h.0)
every_split P (y ∷ a) x h = let r = every_split P a x h.1 in ((h.0, r.0), r.1)

last_link : (n e : Place) (younger : List Continuation) (k : Continuation) → Links n (younger ++ k ∷ []) e → lowest k.parent.frame k.under ≡ e
last_link n e [] k h = h.1
last_link n e (y ∷ ys) k h = last_link (lowest y.parent.frame y.under) e ys k h.1

over_more : (m : Place) (k : ℕ) (names : List Place) → Every (IsOver m) names → Every (IsOver (child_of m k)) names
over_more m k [] h = tt
over_more m k (a ∷ names) h = (record { path = h.0.path ++ k ∷ []; is = ap (λ w. w ++ k ∷ []) h.0.is ∙ append_assoc a h.0.path (k ∷ []) }, over_more m k names h.1)

over_start : (m : Start) (n : Place) (names : List Place) → Begins false m → n ≡ place_of_start m → Precede m names → Every (IsOver n) names
over_start root n names b e h = absurd b
over_start (behind m k) n names b e h = subst (λ w. Every (IsOver w) names) (sym e) (over_more m k names h)

unbroken_of : (ph : Phase) (A : Type 0) → ((k : Fault) → ph ≡ broken k → ⊥) → Unbroken ph A → A
unbroken_of (broken k) A n h = absurd (n k refl)
unbroken_of (entering child) A n h = h
unbroken_of (running todo) A n h = h
unbroken_of (spawning d x child todo) A n h = h
unbroken_of (returning v) A n h = h
unbroken_of (leaving v) A n h = h

one_alone : (ls : List Notes) → length ls ≡ 1 → (l : Notes) × (ls ≡ l ∷ [])
one_alone [] e = absurd cc
one_alone (l ∷ []) e = (l, refl)
one_alone (l ∷ m ∷ ls) e = absurd cc

module _ (program : Revised) (tables : Tables) (memory : Memory) where
  abbrev Now : LayeredStrand → Tally → Type 0
  Now = IsTalliedNow program tables (L program tables memory)

  abbrev S : Accumulators
  S = sight_of program.tree tables

  abbrev Own : LayeredStrand → Tally → Type 0
  Own = OwnsNow program tables (L program tables memory)

  abbrev Recorded : LayeredStrand → Tally → Type 0
  Recorded = RecordsNow program tables (L program tables memory)

  -- with the layers of `left` owed by the pieces to the left, it leaves those of `right` owed to the pieces to the right
  pub record PieceTallied (left right : List Place) (p : Piece) : Type 0 where
    pub owes : OwesLayers p.strand p.deque p.tally left right
    pub news : Every (IsNewRecord program tables) p.tally.made
    pub shallow : Every IsShallowContinuation p.deque
    pub owns : Gone p ⊎ Own p.strand p.tally
    pub adds : Gone p ⊎ AddsUp p.tally
    pub records : Gone p ⊎ Recorded p.strand p.tally

  abbrev pub TallyFit : List Place → List Piece → Type 0
  TallyFit left [] = left ≡ []
  TallyFit left (p ∷ ps) = (right : List Place) × PieceTallied left right p × TallyFit right ps

  abbrev TallyOf : RunState → Type 0
  TallyOf s = TallyFit [] s.pieces

  put_in : (before old new : List Piece) → ((left : List Place) → TallyFit left old → TallyFit left new) → (left : List Place) → TallyFit left (before ++ old) → TallyFit left (before ++ new)
  put_in [] old new k left h = k left h
  put_in (q ∷ before) old new k left h = (h.0, h.1, put_in before old new k h.0 h.2)

  abbrev Keeps : List Piece → Piece → Change → Type 0
  Keeps ps p c = (left : List Place) → TallyFit left (p ∷ ps) → TallyFit left (c.pieces ++ ps)

  among_fit : (before : List Piece) (p : Piece) (ps : List Piece) (history : List BookStep) (o : Option Change) → ForSome (Keeps ps p) o → TallyFit [] (before ++ p ∷ ps) → ForSome TallyOf (among before ps history o)
  among_fit before p ps history None k h = tt
  among_fit before p ps history (Some c) k h = put_in before (p ∷ ps) (c.pieces ++ ps) k [] h

  abbrev KeepsAll : (Piece → Option Change) → Type 0
  KeepsAll change = (first : Bool) (found later : List Bool) (p : Piece) (ps : List Piece) → FitPiece program tables memory first p found later (front ps) → FitAll program tables memory false ps later → ForSome (Keeps ps p) (change p)

  changed_fit : (w : ℕ) (change : Piece → Option Change) → KeepsAll change → (before ps : List Piece) (history : List BookStep) (b : Bool) (found : List Bool) → FitAll program tables memory b (before ++ ps) found → TallyFit [] (before ++ ps) → ForSome TallyOf (changed w change before ps history)
  changed_fit w change k before [] history b found r h = tt
  changed_fit w change k before (p ∷ ps) history b found r h =
      let shift = sym (append_assoc before (p ∷ []) ps) in
      either TallyOf (is_held_by w p) (among before ps history (change p)) (changed w change (before ++ p ∷ []) ps history)
      (λ e. let i = inner program tables memory before (p ∷ ps) b found r in among_fit before p ps history (change p) (k i.0 i.1.0 i.1.1.0 p ps i.1.1.1 i.1.1.2) h)
      (changed_fit w change k (before ++ p ∷ []) ps history b found (subst (λ u. FitAll program tables memory b u found) shift r) (subst (λ u. TallyFit [] u) shift h))

  pub own_of : (left right : List Place) (p : Piece) → ((k : Fault) → p.strand.phase ≡ broken k → ⊥) → PieceTallied left right p → Own p.strand p.tally
  own_of left right p good h = elim h.owns [ inl g ↦ absurd (good g.1.0 g.1.1) | inr t ↦ t ]

  pub now_of : (left right : List Place) (p : Piece) → ((k : Fault) → p.strand.phase ≡ broken k → ⊥) → PieceTallied left right p → Now p.strand p.tally
  now_of left right p good h = (own_of left right p good h).tallied

  pub adds_of : (left right : List Place) (p : Piece) → ((k : Fault) → p.strand.phase ≡ broken k → ⊥) → PieceTallied left right p → AddsUp p.tally
  adds_of left right p good h = elim h.adds [ inl g ↦ absurd (good g.1.0 g.1.1) | inr a ↦ a ]

  pub records_of : (left right : List Place) (p : Piece) → ((k : Fault) → p.strand.phase ≡ broken k → ⊥) → PieceTallied left right p → Recorded p.strand p.tally
  records_of left right p good h = elim h.records [ inl g ↦ absurd (good g.1.0 g.1.1) | inr r ↦ r ]

  over_right : (ps : List Piece) (right : List Place) (n : Place) (later : List Bool) → n ≡ front ps → FitAll program tables memory false ps later → TallyFit right ps → Every (IsOver n) right
  over_right [] right n later e f h = subst (Every (IsOver n)) (sym h) tt
  over_right (q ∷ ps) right n later e f h = over_start q.strand.start n right f.1.begins e h.1.owes.precede

  pub whole_of : (first : Bool) (found later : List Bool) (p : Piece) (e : Place) → FitPiece program tables memory first p found later e → ((k : Fault) → p.strand.phase ≡ broken k → ⊥) → Whole program tables memory p found later e
  whole_of first found later p e i good = elim i.fits [ inr c ↦ absurd (good c.fault c.phase) | inl w ↦ w ]

  owed_around : (ps : List Piece) (right : List Place) (later : List Bool) → FitAll program tables memory false ps later → TallyFit right ps → Every (IsAround (front ps)) right
  owed_around [] right later f h = subst (Every (IsAround [])) (sym h) tt
  owed_around (q ∷ ps) right later f h = start_around q.strand.start right f.1.begins h.1.owes.precede

  pushed_stacked : (m : Start) (ks : List Continuation) → Pushed program tables memory m ks → Every (λ k. Stacked k.parent.frame.instance k.under) ks
  pushed_stacked m [] h = tt
  pushed_stacked m (k ∷ ks) h = (h.0.1.stacked, pushed_stacked m ks h.1)

  pub around_of : (first : Bool) (found later : List Bool) (right : List Place) (p : Piece) (ps : List Piece) → FitPiece program tables memory first p found later (front ps) → FitAll program tables memory false ps later → TallyFit right ps → ((k : Fault) → p.strand.phase ≡ broken k → ⊥)
      → Every (IsAround p.strand.frame.instance) (recorded_under (p.strand.under ++ parents_behind p.deque) ++ right)
  around_of first found later right p ps i f g good =
      let s = p.strand in
      let w = whole_of first found later p (front ps) i good in
      stack_around s.frame s.under (parents_behind p.deque) right w.right.task.stacked
      (deque_around (lowest s.frame s.under) (front ps) p.deque right w.links (pushed_stacked s.start p.deque i.deque) (owed_around ps right later f g))

  module _ (stays : TalliedStays program tables (L program tables memory)) (owed : LayersStayOwed program tables (L program tables memory)) (own : LayersStayOwn program tables (L program tables memory)) (stay : RecordsStay program tables (L program tables memory)) where
    -- ---- work, push, inline, pop

    abbrev Worked : Piece → Step → Piece
    Worked p st = record { strand = advanced program.tree p.strand st; deque = p.deque; state = p.state; tally = tallied program p.strand.layers st p.tally }

    work_by : (kits : ℕ) (p : Piece) (ps : List Piece) (st : Step) → ((left right : List Place) → PieceTallied left right p → TallyFit right ps → PieceTallied left right (Worked p st)) → ForSome (Keeps ps p) (worked_by program tables memory kits p st)
    work_by kits p ps (moved l evs fr ph t) k = λ left h. (h.0, k left h.0 h.1 h.2, h.2)
    work_by kits p ps (taken evs x fr ph t) k = λ left h. (h.0, k left h.0 h.1 h.2, h.2)
    work_by kits p ps (paused e) k = tt

    work_one : (kits : ℕ) (p : Piece) (left right : List Place) → ((k : Fault) → p.strand.phase ≡ broken k → ⊥) → Every (IsAround p.strand.frame.instance) (recorded_under (p.strand.under ++ parents_behind p.deque) ++ right) → PieceTallied left right p → PieceTallied left right (Worked p (step_of program tables memory kits p.strand))
    work_one kits p left right good around h =
        let kit = memory.recording && nat_lt 0 kits in
        let t = own_of left right p good h in
        let top = (flags_names program tables (L program tables memory)).knows p.strand p.deque p.tally left right h.owes around in
        let more = own.advances_by_flag kit p.strand p.tally t top in
        record {
          owes = owed.advances kit p.strand p.deque p.tally left right t.tallied h.owes;
          news = more.tallied.made;
          shallow = h.shallow;
          owns = inr more;
          adds = inr ((add_up program).advances p.strand.layers (step_of program tables memory kits p.strand) p.tally (adds_of left right p good h));
          records = inr (stay.advances kit p.strand p.tally t.tallied.shallow (records_of left right p good h));
        }

    works : (kits : ℕ) → KeepsAll (worked program tables memory kits)
    works kits first found later p ps i rest =
        elim (broken_or p.strand.phase) [
          | inl k ↦ worked_broken program tables memory kits (Keeps ps p) p k.0 k.1
          | inr good ↦ work_by kits p ps (step_of program tables memory kits p.strand) (λ left right h g. work_one kits p left right good (around_of first found later right p ps i rest g good) h)
        ]

    pushes : (kits : ℕ) (p : Piece) (ps : List Piece) (ph : Phase) → p.strand.phase ≡ ph → ForSome (Keeps ps p) (pushed_at program tables memory kits p ph)
    pushes kits p ps (spawning d x child todo) e = λ left h.
        let good : (k : Fault) → p.strand.phase ≡ broken k → ⊥ = λ k z. (let c : spawning d x child todo ≡ broken k = sym e ∙ z in cc) in
        let t = own_of left h.0 p good h.1 in (
          h.0,
          record {
            owes = owed.pushes p.strand p.deque p.tally left h.0 d x child todo e h.1.owes;
            news = h.1.news;
            shallow = ((stays.continues p.strand p.tally d x child todo e t.tallied).1, h.1.shallow);
            owns = inr (own.detaches p.strand p.tally d x child todo e t);
            adds = inr (adds_of left h.0 p good h.1);
            records = inr (detach_records program tables S (L program tables memory) p.strand p.tally d x child todo e (records_of left h.0 p good h.1));
          },
          h.2,
        )
    pushes kits p ps (entering child) e = tt
    pushes kits p ps (running todo) e = tt
    pushes kits p ps (returning v) e = tt
    pushes kits p ps (leaving v) e = tt
    pushes kits p ps (broken k) e = tt

    inlines : (kits : ℕ) (p : Piece) (ps : List Piece) (ph : Phase) → p.strand.phase ≡ ph → ForSome (Keeps ps p) (inlined_at program tables memory kits p ph)
    inlines kits p ps (spawning d x child todo) e = λ left h.
        let good : (k : Fault) → p.strand.phase ≡ broken k → ⊥ = λ k z. (let c : spawning d x child todo ≡ broken k = sym e ∙ z in cc) in
        let t = own_of left h.0 p good h.1 in (
          h.0,
          record {
            owes = owed.inlines p.strand p.deque p.tally left h.0 d x child todo e h.1.owes;
            news = h.1.news;
            shallow = h.1.shallow;
            owns = inr (own.inlines p.strand p.tally d x child todo e t);
            adds = inr (adds_of left h.0 p good h.1);
            records = inr (inline_records program tables S (L program tables memory) p.strand p.tally d x child todo e (records_of left h.0 p good h.1));
          },
          h.2,
        )
    inlines kits p ps (entering child) e = tt
    inlines kits p ps (running todo) e = tt
    inlines kits p ps (returning v) e = tt
    inlines kits p ps (leaving v) e = tt
    inlines kits p ps (broken k) e = tt

    pops : (kits : ℕ) (first : Bool) (found later : List Bool) (p : Piece) (ps : List Piece) → FitPiece program tables memory first p found later (front ps) → (ph : Phase) (t : List Parent) (ks : List Continuation) → p.strand.phase ≡ ph → p.strand.under ≡ t → p.deque ≡ ks → ForSome (Keeps ps p) (popped_at program tables memory kits p ph t ks)
    pops kits first found later p ps i (leaving v) [] (k ∷ ks) a b c = λ left h.
        let good : (f : Fault) → p.strand.phase ≡ broken f → ⊥ = λ f z. (let y : leaving v ≡ broken f = sym a ∙ z in cc) in
        let t = own_of left h.0 p good h.1 in
        let w = whole_of first found later p (front ps) i good in
        let link : Links (lowest p.strand.frame p.strand.under) (k ∷ ks) (front ps) = subst (λ ds. Links (lowest p.strand.frame p.strand.under) ds (front ps)) c w.links in
        let at_place : p.strand.frame.instance ≡ place_of_continuation k = subst (λ u. lowest p.strand.frame u ≡ place_of_continuation k) b link.0 in
        let back = subst (Pushed program tables memory p.strand.start) c i.deque in
        let low = subst (Every IsShallowContinuation) c h.1.shallow in (
          h.0,
          record {
            owes = owed.pops p.strand k ks p.tally left h.0 v a b (subst (λ ds. OwesLayers p.strand ds p.tally left h.0) c h.1.owes);
            news = h.1.news;
            shallow = low.1;
            owns = inr (own.pops p.strand p.tally k v a b (sym back.0.0) at_place t (back.0.1, low.0));
            adds = inr (adds_of left h.0 p good h.1);
            records = inr (pop_records program tables S (L program tables memory) p.strand p.tally k v a b (sym back.0.0) at_place (records_of left h.0 p good h.1) back.0.1);
          },
          h.2,
        )
    pops kits first found later p ps i (leaving v) [] [] a b c = tt
    pops kits first found later p ps i (leaving v) (q ∷ t) ks a b c = tt
    pops kits first found later p ps i (entering child) t ks a b c = tt
    pops kits first found later p ps i (running todo) t ks a b c = tt
    pops kits first found later p ps i (spawning d x child todo) t ks a b c = tt
    pops kits first found later p ps i (returning v) t ks a b c = tt
    pops kits first found later p ps i (broken k) t ks a b c = tt

    -- ---- steal

    links_of : (first : Bool) (found later : List Bool) (p : Piece) (e : Place) (younger : List Continuation) (k : Continuation) → FitPiece program tables memory first p found later e → p.deque ≡ younger ++ k ∷ [] → lowest k.parent.frame k.under ≡ e
    links_of first found later p e younger k i q =
        elim i.fits [
          | inr c ↦ absurd (none_last younger k (sym q ∙ c.deque))
          | inl w ↦ last_link (lowest p.strand.frame p.strand.under) e younger k (subst (λ ds. Links (lowest p.strand.frame p.strand.under) ds e) q w.links)
        ]

    robs : (thief kits : ℕ) (first : Bool) (found later : List Bool) (p : Piece) (ps : List Piece) → FitPiece program tables memory first p found later (front ps) → FitAll program tables memory false ps later → (younger older : List Continuation) → p.deque ≡ younger ++ older → ForSome (Keeps ps p) (robbed_of program tables memory thief kits p younger older)
    robs thief kits first found later p ps i rest younger [] q = tt
    robs thief kits first found later p ps i rest younger (k ∷ []) q = λ left h.
        let cont = (pushed_split program tables memory p.strand.start younger k (subst (Pushed program tables memory p.strand.start) q i.deque)).1.1 in
        let low = every_split IsShallowContinuation younger k (subst (Every IsShallowContinuation) q h.1.shallow) in
        let over = over_right ps h.0 (lowest k.parent.frame k.under) later (links_of first found later p (front ps) younger k i q) rest h.2 in
        let both = owed.steals p.strand younger k p.tally left h.0 cont.stacked over (subst (λ ds. OwesLayers p.strand ds p.tally left h.0) q h.1.owes) in
        let t : Own p.strand p.tally = elim h.1.owns [ inl g ↦ absurd (none_last younger k (sym q ∙ g.0)) | inr t ↦ t ] in
        let a : AddsUp p.tally = elim h.1.adds [ inl g ↦ absurd (none_last younger k (sym q ∙ g.0)) | inr a ↦ a ] in
        let b : Recorded p.strand p.tally = elim h.1.records [ inl g ↦ absurd (none_last younger k (sym q ∙ g.0)) | inr b ↦ b ] in (
          recorded_of (stolen program.tree k) [] ++ h.0,
          record { owes = both.0; news = h.1.news; shallow = low.0; owns = inr t; adds = inr a; records = inr b },
          (h.0, record { owes = both.1; news = tt; shallow = tt; owns = inr (own.steals k (cont, low.1)); adds = inr refl; records = inr (steal_records program tables S (L program tables memory) k cont) }, h.2),
        )
    robs thief kits first found later p ps i rest younger (k ∷ j ∷ ks) q = robs thief kits first found later p ps i rest (younger ++ k ∷ []) (j ∷ ks) (q ∙ sym (append_assoc younger (k ∷ []) (j ∷ ks)))

    steals : (thief kits : ℕ) → KeepsAll (stolen_from program tables memory thief kits)
    steals thief zero first found later p ps i rest = tt
    steals thief (suc kits) first found later p ps i rest = robs thief kits first found later p ps i rest [] p.deque refl

    -- ---- stall

    laid_tally : (left right : List Place) (p : Piece) (st : strands.State) → p.deque ≡ [] → PieceTallied left right p → PieceTallied left right (record { strand = p.strand; deque = []; state = st; tally = p.tally })
    laid_tally left right p st e h =
        record {
          owes = subst (λ ds. OwesLayers p.strand ds p.tally left right) e h.owes;
          news = h.news;
          shallow = tt;
          owns = elim h.owns [ inl g ↦ inl (refl, g.1) | inr t ↦ inr t ];
          adds = elim h.adds [ inl g ↦ inl (refl, g.1) | inr a ↦ inr a ];
          records = elim h.records [ inl g ↦ inl (refl, g.1) | inr r ↦ inr r ];
        }

    leaves : (kits : ℕ) (p : Piece) (ps : List Piece) (n : Place) → p.deque ≡ [] → ForSome (Keeps ps p) (left_by program tables memory kits p n)
    leaves kits p ps [] e = λ left h. (h.0, laid_tally left h.0 p strands.Finished e h.1, h.2)
    leaves kits p ps (a ∷ n) e = λ left h. (h.0, laid_tally left h.0 p strands.Ended e h.1, h.2)

    syncs : (kits : ℕ) (p : Piece) (ps : List Piece) (s : Step) → p.deque ≡ [] → ForSome (Keeps ps p) (stalled_by program tables memory kits p s)
    syncs kits p ps (paused at_sync) e = λ left h. (h.0, laid_tally left h.0 p strands.Stalled e h.1, h.2)
    syncs kits p ps (paused at_spawn) e = tt
    syncs kits p ps (paused returned) e = tt
    syncs kits p ps (paused faulted) e = tt
    syncs kits p ps (moved l evs fr ph t) e = tt
    syncs kits p ps (taken evs k fr ph t) e = tt

    stalls : (kits : ℕ) (p : Piece) (ps : List Piece) (ph : Phase) (t : List Parent) (ks : List Continuation) → p.deque ≡ ks → ForSome (Keeps ps p) (stalled_at program tables memory kits p ph t ks)
    stalls kits p ps (broken k) t ks e = λ left h. (h.0, record { owes = record { balance = tt; precede = h.1.owes.precede }; news = h.1.news; shallow = tt; owns = inl (refl, (k, refl)); adds = inl (refl, (k, refl)); records = inl (refl, (k, refl)) }, h.2)
    stalls kits p ps (leaving v) [] [] e = leaves kits p ps p.strand.frame.instance e
    stalls kits p ps (leaving v) [] (k ∷ ks) e = tt
    stalls kits p ps (leaving v) (r ∷ t) [] e = syncs kits p ps (step_of program tables memory kits p.strand) e
    stalls kits p ps (leaving v) (r ∷ t) (k ∷ ks) e = tt
    stalls kits p ps (entering child) t [] e = syncs kits p ps (step_of program tables memory kits p.strand) e
    stalls kits p ps (entering child) t (k ∷ ks) e = tt
    stalls kits p ps (running todo) t [] e = syncs kits p ps (step_of program tables memory kits p.strand) e
    stalls kits p ps (running todo) t (k ∷ ks) e = tt
    stalls kits p ps (spawning d x child todo) t [] e = syncs kits p ps (step_of program tables memory kits p.strand) e
    stalls kits p ps (spawning d x child todo) t (k ∷ ks) e = tt
    stalls kits p ps (returning v) t [] e = syncs kits p ps (step_of program tables memory kits p.strand) e
    stalls kits p ps (returning v) t (k ∷ ks) e = tt

    -- ---- fold

    abbrev Folds : Piece → Piece → List Piece → Piece → Type 0
    Folds l r ps q = (left : List Place) → TallyFit left (l ∷ r ∷ ps) → TallyFit left (q ∷ ps)

    gone_fold : (w : ℕ) (l r : Piece) (ps : List Piece) (k : Fault) → ForSome (Folds l r ps) (folded_by program tables memory w l r (Some (broken_pair program tables memory l.strand r.strand k)))
    gone_fold w l r ps k = λ left h. (
      h.2.0,
      record {
        owes = record { balance = tt; precede = h.1.owes.precede };
        news = every_append (IsNewRecord program tables) l.tally.made r.tally.made h.1.news h.2.1.news;
        shallow = tt;
        owns = inl (refl, (k, refl));
        adds = inl (refl, (k, refl));
        records = inl (refl, (k, refl));
      },
      h.2.2,
    )

    gone_by : (w : ℕ) (l r : Piece) (ps : List Piece) (k : Fault) (b : Bool) → ForSome (Folds l r ps) (folded_by program tables memory w l r (cond b (Some (broken_pair program tables memory l.strand r.strand k)) None))
    gone_by w l r ps k true = gone_fold w l r ps k
    gone_by w l r ps k false = tt

    -- what a fold of two strands without a fault begins from
    record Meets (v : ℤ) (l r : Piece) (ps : List Piece) : Type 0 where
      phase : l.strand.phase ≡ leaving v
      good : (k : Fault) → r.strand.phase ≡ broken k → ⊥
      done : strands.done l.state ≡ true
      waits : strands.waits r.state ≡ true
      first : Bool
      found : List Bool
      mid : List Bool
      later : List Bool
      left_fits : FitPiece program tables memory first l found mid (place_of r)
      right_fits : FitPiece program tables memory false r mid later (front ps)
      rest : FitAll program tables memory false ps later

    behind_of : (m : Start) → Begins false m → (n : Place) × ((c : ℕ) × (m ≡ behind n c))
    behind_of root b = absurd b
    behind_of (behind n c) b = (n, (c, refl))

    join_fold : (w : ℕ) (l r : Piece) (ps : List Piece) (v : ℤ) → Meets v l r ps → (b : Bool) → same_name l.strand.frame.instance (place_of r) && may_join program tables memory l.strand (joined program.tree l.strand v r.strand) ≡ b
        → ForSome (Folds l r ps) (folded_by program tables memory w l r (cond b (Some (joined program.tree l.strand v r.strand)) None))
    join_fold w l r ps v m false e = tt
    join_fold w l r ps v m true e = λ left h.
        let x = both_are (same_name l.strand.frame.instance (place_of r)) (may_join program tables memory l.strand (joined program.tree l.strand v r.strand)) e in
        let named = same_name_true l.strand.frame.instance (place_of r) x.0 in
        let over = over_of program tables memory l.state l.strand l.deque v m.done m.phase m.left_fits.laid in
        let s = stalled_of program tables memory r.state r.strand r.deque m.waits m.good m.right_fits.laid in
        let b = behind_of r.strand.start m.right_fits.begins in
        let one = one_alone r.strand.layers s.one_layer in
        let good : (f : Fault) → l.strand.phase ≡ broken f → ⊥ = λ f z. (let y : leaving v ≡ broken f = sym m.phase ∙ z in cc) in
        let tl = own_of left h.0 l good h.1 in
        let tr = own_of h.0 h.2.0 r m.good h.2.1 in
        let ol = subst (λ ds. OwesLayers l.strand ds l.tally left h.0) over.1 h.1.owes in
        let ow = subst (λ ds. OwesLayers r.strand ds r.tally h.0 h.2.0) s.deque h.2.1.owes in
        let right_whole = whole_of false m.mid m.later r (front ps) m.right_fits m.good in
        let low : lowest r.strand.frame r.strand.under ≡ front ps = subst (λ ds. Links (lowest r.strand.frame r.strand.under) ds (front ps)) s.deque right_whole.links in
        let above = over_right ps h.2.0 (lowest r.strand.frame r.strand.under) m.later low m.rest h.2.2 in
        let none = unbroken_of r.strand.phase ((r.tally.opened ≡ []) × IsOneLayer r.strand.layers) m.good (entry_has_one program tables (L program tables memory) r.strand r.tally h.0 h.2.0 s.entry above tr.tallied ow) in
        let may = may_join_true program tables memory l.strand (joined program.tree l.strand v r.strand) x.1 in
        let t = own.joins l.strand r.strand l.tally r.tally v b.0 b.1.0 one.0 m.phase over.0 b.1.1 (named ∙ ap place_of_start b.1.1) one.1 may tl tr in
        let y = stay.joins l.strand r.strand l.tally r.tally v b.0 b.1.0 one.0 m.phase over.0 b.1.1 (named ∙ ap place_of_start b.1.1) one.1 may none.0 (records_of left h.0 l good h.1) (records_of h.0 h.2.0 r m.good h.2.1) in (
          h.2.0,
          record {
            owes = owed.joins l.strand r.strand l.tally r.tally v left h.0 h.2.0 m.phase over.0 none.0 ol ow;
            news = every_append (IsNewRecord program tables) l.tally.made r.tally.made h.1.news h.2.1.news;
            shallow = tt;
            owns = inr t;
            adds = inr ((add_up program).joins l.tally r.tally none.0 (adds_of left h.0 l good h.1) (adds_of h.0 h.2.0 r m.good h.2.1));
            records = inr y;
          },
          h.2.2,
        )

    pair_folds : (w : ℕ) (first : Bool) (found mid later : List Bool) (l r : Piece) (ps : List Piece) → strands.done l.state ≡ true → strands.waits r.state ≡ true → FitPiece program tables memory first l found mid (place_of r) → FitPiece program tables memory false r mid later (front ps) → FitAll program tables memory false ps later
        → (ph q : Phase) → l.strand.phase ≡ ph → r.strand.phase ≡ q → ForSome (Folds l r ps) (folded_by program tables memory w l r (joined_pair program tables memory l.strand ph r.strand q))
    pair_folds w first found mid later l r ps a b i j k ph q x y = by ph q x y
      where
        meets : (v : ℤ) → l.strand.phase ≡ leaving v → ((k : Fault) → r.strand.phase ≡ broken k → ⊥) → ForSome (Folds l r ps) (folded_by program tables memory w l r (cond (same_name l.strand.frame.instance (place_of r) && may_join program tables memory l.strand (joined program.tree l.strand v r.strand)) (Some (joined program.tree l.strand v r.strand)) None))
        meets v x good = join_fold w l r ps v (record { phase = x; good = good; done = a; waits = b; first = first; found = found; mid = mid; later = later; left_fits = i; right_fits = j; rest = k }) (same_name l.strand.frame.instance (place_of r) && may_join program tables memory l.strand (joined program.tree l.strand v r.strand)) refl

        by : (ph q : Phase) → l.strand.phase ≡ ph → r.strand.phase ≡ q → ForSome (Folds l r ps) (folded_by program tables memory w l r (joined_pair program tables memory l.strand ph r.strand q))
        by (broken f) q x y = gone_fold w l r ps f
        by (leaving v) (broken f) x y = gone_by w l r ps f (same_name l.strand.frame.instance (place_of_start r.strand.start))
        by (leaving v) (entering child) x y = meets v x (λ f z. let u : entering child ≡ broken f = sym y ∙ z in cc)
        by (leaving v) (running todo) x y = meets v x (λ f z. let u : running todo ≡ broken f = sym y ∙ z in cc)
        by (leaving v) (spawning d o child todo) x y = meets v x (λ f z. let u : spawning d o child todo ≡ broken f = sym y ∙ z in cc)
        by (leaving v) (returning i) x y = meets v x (λ f z. let u : returning i ≡ broken f = sym y ∙ z in cc)
        by (leaving v) (leaving i) x y = meets v x (λ f z. let u : leaving i ≡ broken f = sym y ∙ z in cc)
        by (entering child) q x y = tt
        by (running todo) q x y = tt
        by (spawning d o child todo) q x y = tt
        by (returning i) q x y = tt

    among_fold : (w kits : ℕ) (before : List Piece) (l r : Piece) (ps : List Piece) (history : List BookStep) (step : BookStep) (o : Option Piece) → ForSome (Folds l r ps) o → TallyFit [] (before ++ l ∷ r ∷ ps) → ForSome TallyOf (folded_among program tables memory w kits before ps history step o)
    among_fold w kits before l r ps history step None k h = tt
    among_fold w kits before l r ps history step (Some q) k h = put_in before (l ∷ r ∷ ps) (q ∷ ps) k [] h

    folds : (w : ℕ) (q : Place) (kits : ℕ) (before ps : List Piece) (history : List BookStep) (b : Bool) (found : List Bool) → FitAll program tables memory b (before ++ ps) found → TallyFit [] (before ++ ps) → ForSome TallyOf (folded_at program tables memory w q kits before ps history)
    folds w q kits before [] history b found g h = tt
    folds w q kits before (l ∷ []) history b found g h = tt
    folds w q kits before (l ∷ r ∷ ps) history b found g h =
        let shift = sym (append_assoc before (l ∷ []) (r ∷ ps)) in
        either TallyOf (same_name (place_of r) q)
        (folded_among program tables memory w kits before ps history (Fold (place_of l) (place_of r) w) (folded program tables memory w l r))
        (folded_at program tables memory w q kits (before ++ l ∷ []) (r ∷ ps) history)
        (λ e. let i = inner program tables memory before (l ∷ r ∷ ps) b found g in
        among_fold w kits before l r ps history (Fold (place_of l) (place_of r) w) (folded program tables memory w l r)
        (either (Folds l r ps) (strands.done l.state && strands.waits r.state) (folded_by program tables memory w l r (joined_pair program tables memory l.strand l.strand.phase r.strand r.strand.phase)) None
        (λ z. let d = both_are (strands.done l.state) (strands.waits r.state) z in pair_folds w i.0 i.1.0 i.1.1.0 i.1.1.2.0 l r ps d.0 d.1 i.1.1.1 i.1.1.2.1 i.1.1.2.2 l.strand.phase r.strand.phase refl refl) tt) h)
        (folds w q kits (before ++ l ∷ []) (r ∷ ps) history b found (subst (λ u. FitAll program tables memory b u found) shift g) (subst (λ u. TallyFit [] u) shift h))

    -- ---- whole runs

    step_tallied : (s : RunState) (e : RunStep) → IsRightNow program tables memory s → TallyOf s → ForSome TallyOf (after_step program tables memory s e)
    step_tallied s (work w) r h = changed_fit w (worked program tables memory s.kits) (works s.kits) [] s.pieces s.history true [] r h
    step_tallied s (push w) r h = changed_fit w (pushed program tables memory s.kits) (λ first found later p ps i rest. pushes s.kits p ps p.strand.phase refl) [] s.pieces s.history true [] r h
    step_tallied s (inline w) r h = changed_fit w (inlined_of program tables memory s.kits) (λ first found later p ps i rest. inlines s.kits p ps p.strand.phase refl) [] s.pieces s.history true [] r h
    step_tallied s (pop w) r h = changed_fit w (popped program tables memory s.kits) (λ first found later p ps i rest. pops s.kits first found later p ps i p.strand.phase p.strand.under p.deque refl refl refl) [] s.pieces s.history true [] r h
    step_tallied s (stall w) r h = changed_fit w (stalled program tables memory s.kits) (λ first found later p ps i rest. stalls s.kits p ps p.strand.phase p.strand.under p.deque refl) [] s.pieces s.history true [] r h
    step_tallied s (steal y v) r h =
        idle program tables memory TallyOf (is_idle y s.pieces) (changed v (stolen_from program tables memory y s.kits) [] s.pieces s.history)
        (changed_fit v (stolen_from program tables memory y s.kits) (steals y s.kits) [] s.pieces s.history true [] r h)
    step_tallied s (fold w q) r h =
        idle program tables memory TallyOf (is_idle w s.pieces) (folded_at program tables memory w q s.kits [] s.pieces s.history)
        (folds w q s.kits [] s.pieces s.history true [] r h)

    path_tallied : IsReady program tables memory → (es : List RunStep) (s : RunState) → IsRightNow program tables memory s → TallyOf s → TallyOf (path program tables memory s es)
    path_tallied ready [] s r h = h
    path_tallied ready (e ∷ es) s r h =
        let o = after_step program tables memory s e in
        path_tallied ready es (or_same program tables memory s o)
        (kept_or program tables memory (IsRightNow program tables memory) s o r (step_right program tables memory ready s e r))
        (kept_or program tables memory TallyOf s o h (step_tallied s e r h))

  news_of : (ps : List Piece) (left : List Place) → TallyFit left ps → Every (λ p. Every (IsNewRecord program tables) p.tally.made) ps
  news_of [] left h = tt
  news_of (p ∷ ps) left h = (h.1.news, news_of ps h.0 h.2)

  pub paths_tallied : IsReady program tables memory → IsNumbered program → (kits : ℕ) (es : List RunStep) → TallyFit [] (path program tables memory (first_state program.tree kits) es).pieces
  paths_tallied ready numbers kits es =
      let stays = tallied_stay program tables (L program tables memory) (law program tables memory ready) ready.rules numbers (sound program tables memory ready) in
      let owed = layers_stay program tables (L program tables memory) ready.rules.reads in
      let own = stay_own program tables (L program tables memory) (law program tables memory ready) ready.rules numbers (sound program tables memory ready) in
      let stay = stay_recorded program tables (L program tables memory) (law program tables memory ready) ready.rules (sound program tables memory ready) in
      let begun : TallyOf (first_state program.tree kits) = ([], record { owes = owed.begins; news = tt; shallow = tt; owns = inr own.begins; adds = inr refl; records = inr (first_records program tables S (L program tables memory)) }, refl) in
      path_tallied stays owed own stay ready es (first_state program.tree kits) (begins_right program tables memory ready kits) begun

  pub paths_news : IsReady program tables memory → IsNumbered program → PathsMakeNews program tables memory
  paths_news ready numbers kits es = news_of (path program tables memory (first_state program.tree kits) es).pieces [] (paths_tallied ready numbers kits es)

  owners_of : (ps : List Piece) (left : List Place) → TallyFit left ps → Every (λ p. Unbroken p.strand.phase (Own p.strand p.tally)) ps
  owners_of [] left h = tt
  owners_of (p ∷ ps) left h =
      let one : Unbroken p.strand.phase (Own p.strand p.tally) = elim h.1.owns [
        | inl g ↦ subst (λ ph. Unbroken ph (Own p.strand p.tally)) (sym g.1.1) tt
        | inr t ↦ any_unbroken p.strand.phase (Own p.strand p.tally) t
      ] in
      (one, owners_of ps h.0 h.2)

  pub paths_own : IsReady program tables memory → IsNumbered program → PathsOwnLayers program tables memory
  paths_own ready numbers kits es = owners_of (path program tables memory (first_state program.tree kits) es).pieces [] (paths_tallied ready numbers kits es)
