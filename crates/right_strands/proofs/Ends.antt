-- The answer of the piece that ends the run is the elision's, and it has counted what is needed.
use Rattle.std.proofs.Common.{◌≡◌, ℕ, ◌<◌, ℤ, true, List, [], ◌∷◌, ◌++◌, length, None, Ok, append-nil, refl, sym, ap, ◌∙◌, subst, arith}
use Rattle.monoid_laws.specs.Worth.{Worth}
use Rattle.meaning.specs.Elision.{from_scratch}
use Rattle.meaning.specs.Elision as elision
use Rattle.meaning.specs.Outcome.{Leaves}
use Rattle.meaning.specs.Trail.{trail_at}
use Rattle.meaning.specs.Tallies.{executions}
use Rattle.meaning.specs.SmallStep.{Start as NamedStart, root, behind, same_name, Frame, Parent, leaving, look_of}
use Rattle.meaning.specs.Layers.{Notes}
use Rattle.meaning.specs.Schedules.{place_of_start, recording_from}
use Rattle.trail_theory.specs.OwedLayers.{Unbroken}
use Rattle.trail_theory.specs.ElisionBeside.{first_fault, before_fault}
use Rattle.trail_theory.specs.OpenLayers.{IsNumbered}
use Rattle.trail_theory.specs.Right.{stretch, RightAt, IsOneLayer}
use Rattle.trail_theory.proofs.Theorems.{ends_reading}
use Rattle.trail_theory.proofs.OwnTheorems.{own_main}
use Rattle.trail_theory.proofs.Counts.{needed_marks, end_counts}
use Rattle.trail_theory.proofs.AddingUp.{add_up}
use Rattle.trail_theory.proofs.FirstFaults.{quiet_first, inside_none}
use Rattle.trail_theory.proofs.Ends.{at_end}
use Rattle.trail_theory.proofs.Keys.{executions_append}
use Rattle.trail_theory.proofs.Needed.{quiet_before}
use Rattle.trail_theory.proofs.NothingNeeded.{end_leaves_none}
use Rattle.strand_theory.specs.Recorded.{AllRecordedBut}
use Rattle.strand_theory.proofs.Recorded.{recorded_end}
use Rattle.strand_theory.proofs.RecordedStrands.{at_parts}
use Rattle.numbered_runs.specs.News.{executed_with, LeaveNothing, HasCounted, HaveNews}
use Rattle.strand_theory.specs.Faults.{BrokenAt}
use Rattle.strand_theory.specs.Ready.{IsReady}
use Rattle.strand_theory.proofs.Broken.{broken_from_scratch}
use Rattle.strand_theory.proofs.Names.{same_name_true}
use Rattle.record_theory.specs.Record.{PlainRecord}
use Rattle.positions.specs.declared.phase.Fault.{Fault}
use Rattle.positions.specs.declared.phase.Phase.TheVariants.{Leaving, Broken}
use Rattle.positions.specs.declared.start.Start.{Start}
use Rattle.positions.specs.declared.start.Start.TheVariants.{Root, Behind}
use Rattle.positions.specs.Activations.{PlainActivation}
use Rattle.positions.specs.Layers.{PlainLayer, lowest}
use Rattle.positions.specs.Setting.{Setting}
use Rattle.positions.specs.Tallies.{PlainTally}
use Rattle.positions.specs.Strands.{PlainStrand}
use Rattle.positions.specs.Simulation.{place_of}
use Rattle.positions.specs.Stands.{AreNotes, AreParents, StandsAt, IsStart, IsAt, named_fault}
use Rattle.frames.specs.Answers.{IsAnswer, Ending, over, stopped, ending_of, ending_at}
use Rattle.positions.specs.declared.answer.RunAnswer.{RunAnswer}
use Rattle.positions.specs.declared.answer.RunAnswer.TheVariants as answer
use Rattle.right_strands.specs.Remembering.{Remembers, recalling}
use Rattle.right_strands.specs.Rightness.{sight, lookup, IsSound, IsRightBy, IsRightStrand}
use Rattle.strand_list.specs.declared.laid_state.LaidState.{LaidState}
use Rattle.strand_list.specs.declared.laid_state.LaidState.TheVariants as laid_state
use Rattle.right_strands.specs.Laid.{IsPausedAs, IsElision, AnswersElision, IsGiven, tally_of, HasRecorded, ends_as}
use Rattle.right_strands.proofs.Points.{HasFinished, finished_is, fault_is}
use Rattle.right_strands.proofs.Recorded.{adds_here, records_of}
use Rattle.right_strands.proofs.Cuts.{place_named, cut_of, sound_of}

-- ---- places

within_none : (st : Start) (v : ℤ) (path : List ℕ) (m : NamedStart) → path ≡ [] → IsStart st (Leaving v) path m → m ≡ root
within_none Root v path root e h = refl
within_none Root v path (behind m k) e h = absurd h
within_none (Behind d c) v path root e h = absurd h
within_none (Behind d c) v path (behind m k) e h = let n : length path ≡ 0 = ap length e in let short : d < length path = h.2 in absurd (omega arith)

is_child_no : (m : List ℕ) (k : ℕ) → m ++ k ∷ [] ≡ [] → ⊥
is_child_no [] k e = cc
is_child_no (a ∷ m) k e = cc

root_of : (m : NamedStart) → place_of_start m ≡ [] → m ≡ root
root_of root e = refl
root_of (behind m k) e = absurd (is_child_no m k e)

-- ---- endings

ending_over : (s : PlainStrand) (p : HasFinished s) → ending_of s ≡ over p.value
ending_over s p = ap (λ ph. ending_at ph s.below s.path) p.phase ∙ ap (λ b. ending_at (Leaving p.value) b s.path) p.below ∙ ap (ending_at (Leaving p.value) []) p.path

ending_stopped : (s : PlainStrand) (f : Fault) → s.phase ≡ Broken f → ending_of s ≡ stopped f
ending_stopped s f e = ap (λ ph. ending_at ph s.below s.path) e

over_given : (v : ℤ) (worths : List Worth) (t : PlainTally) (given : RunAnswer) → IsAnswer (over v) worths t given → IsGiven given
over_given v worths t (answer.Finished w got n m k) h = tt
over_given v worths t (answer.Fault f) h = absurd h
over_given v worths t answer.Unfinished h = h
over_given v worths t answer.NoMemory h = tt
over_given v worths t answer.NoKit h = h

stopped_given : (f : Fault) (worths : List Worth) (t : PlainTally) (given : RunAnswer) → IsAnswer (stopped f) worths t given → IsGiven given
stopped_given f worths t (answer.Finished w got n m k) h = absurd h
stopped_given f worths t (answer.Fault g) h = tt
stopped_given f worths t answer.Unfinished h = h
stopped_given f worths t answer.NoMemory h = absurd h
stopped_given f worths t answer.NoKit h = h

module _ (setting : Setting) where
  -- ---- answers

  finished : (v : ℤ) (worths : List Worth) (t : PlainTally) (given : RunAnswer) → IsAnswer (over v) worths t given → IsElision setting (elision.Finished v worths) given
  finished v worths t (answer.Finished w got n m k) h = (h.0, h.1)
  finished v worths t (answer.Fault f) h = absurd h
  finished v worths t answer.Unfinished h = tt
  finished v worths t answer.NoMemory h = tt
  finished v worths t answer.NoKit h = tt

  faulted : (f : Fault) (worths : List Worth) (t : PlainTally) (given : RunAnswer) → IsAnswer (stopped f) worths t given → IsElision setting (elision.Faulted (named_fault setting f)) given
  faulted f worths t (answer.Finished w got n m k) h = absurd h
  faulted f worths t (answer.Fault g) h = ap (named_fault setting) h
  faulted f worths t answer.Unfinished h = tt
  faulted f worths t answer.NoMemory h = tt
  faulted f worths t answer.NoKit h = tt

  -- where the run has finished, those counts and new records
  abbrev pub RecordedBy : RunAnswer → List PlainRecord → Type 0
  RecordedBy (answer.Finished v values n m k) made = HasCounted setting (tally_of n m k made) × HaveNews setting (tally_of n m k made)
  RecordedBy _ made = Unit {0}

  counted : (v : ℤ) (worths : List Worth) (t : PlainTally) (given : RunAnswer) → IsAnswer (over v) worths t given → HasCounted setting t → HaveNews setting t → RecordedBy given t.made
  counted v worths t (answer.Finished w got n m k) a h g = (
    record { executed_are = a.2.executed_is ∙ h.executed_are; reused_are = a.2.reused_is ∙ h.reused_are },
    record {
      kept = g.kept;
      stand = g.stand;
      news = g.news;
      each = subst (λ j. AllRecordedBut j g.kept (executed_with setting setting.memory.records)) (sym a.2.unrecorded_is) g.each;
      complete = λ e. g.complete (sym a.2.unrecorded_is ∙ e);
    },
  )
  counted v worths t (answer.Fault f) a h g = tt
  counted v worths t answer.Unfinished a h g = tt
  counted v worths t answer.NoMemory a h g = tt
  counted v worths t answer.NoKit a h g = tt

  none_counted : (f : Fault) (worths : List Worth) (t : PlainTally) (made : List PlainRecord) (given : RunAnswer) → IsAnswer (stopped f) worths t given → RecordedBy given made
  none_counted f worths t made (answer.Finished w got n m k) a = absurd a
  none_counted f worths t made (answer.Fault g) a = tt
  none_counted f worths t made answer.Unfinished a = tt
  none_counted f worths t made answer.NoMemory a = tt
  none_counted f worths t made answer.NoKit a = tt

  -- ---- layers

  -- by name there is one layer, so by numbers
  pub record OneNote (ns : List Notes) (l : PlainLayer) (ls : List PlainLayer) : Type 0 where
    pub note : Notes
    pub is : ns ≡ note ∷ []
    pub worth : note.worth ≡ l.worths
    pub lower : ls ≡ []

  pub one_note : (st : Start) (l : PlainLayer) (ls : List PlainLayer) (ns : List Notes) → IsOneLayer ns → AreNotes setting st (l ∷ ls) ns → OneNote ns l ls
  one_note st l ls [] e h = absurd e
  one_note st l [] (n ∷ []) e h = record { note = n; is = refl; worth = h.0.worths; lower = refl }
  one_note st l (m ∷ ls) (n ∷ []) e h = absurd h.1
  one_note st l ls (n ∷ m ∷ ns) e h = absurd e

  none_under : (path : List ℕ) (below : List PlainActivation) (under : List Parent) → below ≡ [] → AreParents setting path below under → under ≡ []
  none_under path [] [] e h = refl
  none_under path [] (p ∷ under) e h = absurd h
  none_under path (a ∷ below) under e h = absurd cc

  -- ---- main is over

  module _ (ready : IsReady setting.program setting.tables setting.memory) (numbered : IsNumbered setting.program) (s : PlainStrand) (p : HasFinished s) (h : IsRightBy setting s) where
    w : IsSound setting s
    w = sound_of setting s (λ f q. (let c : Leaving p.value ≡ Broken f = sym p.phase ∙ q in cc)) h

    at : IsAt setting (leaving p.value) s.path s.top s.below w.named
    at = subst (λ ph. StandsAt setting ph s.below s w.named) p.phase w.stands.now

    is_root : w.named.start ≡ root
    is_root = within_none s.start p.value s.path w.named.start p.path (subst (λ ph. IsStart s.start ph s.path w.named.start) p.phase w.stands.start)

    is_main : w.named.frame.instance ≡ []
    is_main = ap (λ (fr : Frame). fr.instance) at.frame ∙ p.path

    is_bare : w.named.under ≡ []
    is_bare = none_under s.path s.below w.named.under p.below at.under

    alone : (w.tally.opened ≡ []) × IsOneLayer w.named.layers
    alone =
        subst (λ ph. Unbroken ph ((w.tally.opened ≡ []) × IsOneLayer w.named.layers)) at.phase (own_main setting.program setting.tables (lookup setting) w.named w.tally is_main w.owns)

    one : OneNote w.named.layers s.layer s.lower
    one = one_note s.start s.layer s.lower w.named.layers alone.1 w.stands.layers

    lowest_is : (lowest s.layer s.lower).worths ≡ one.note.worth
    lowest_is = ap (λ ls. (lowest s.layer ls).worths) one.lower ∙ sym one.worth

    is_over : from_scratch setting.program.tree setting.tables ≡ elision.Finished p.value (lowest s.layer s.lower).worths
    is_over =
        ends_reading setting.program.tree setting.tables (lookup setting) ready.rules.reads w.named p.value one.note is_root at.phase is_bare is_main one.is w.owns.tallied.right
        ∙ ap (elision.Finished p.value) (sym lowest_is)

    main_counted : HasCounted setting s.tally
    main_counted =
        let n = end_counts setting.program setting.tables setting.memory.records ready.rules.reads ready.sound w.named w.tally p.value is_root at.phase is_bare is_main w.owns.tallied in
        record { executed_are = sym w.stands.tally.executed ∙ n.executed_are; reused_are = sym w.stands.tally.reused ∙ n.reused_are }

    -- the executions of main's whole stretch are the needed ones
    whole_executed : (ls : List Notes) (fr : Frame) (g : RightAt setting.program.tree setting.tables (sight setting) (lookup setting) root ls fr (leaving p.value) []) → fr.instance ≡ []
        → executions (stretch g.segments) ≡ executed_with setting setting.memory.records
    whole_executed ls fr g d =
        let here = stretch g.segments in
        let last = Leaves [] (Ok p.value) ∷ [] in
        let T = trail_at setting.program.tree setting.tables (sight setting) (look_of (lookup setting)) in
        let whole : here ++ last ≡ T = (at_end setting.program.tree setting.tables (sight setting) (lookup setting) ls fr p.value g d).0 in
        let quiet : first_fault T ≡ None = ap first_fault (sym whole) ∙ quiet_first here last (inside_none root here g.inside) in
        let upto : before_fault T ≡ here ++ last = quiet_before setting.program setting.tables (sight setting) setting.memory.records T quiet ∙ sym whole in
        let n = needed_marks setting.program setting.tables setting.memory.records ready.rules.reads ready.sound (sight setting) in
        sym (append-nil (executions here)) ∙ sym (executions_append here last) ∙ ap executions (sym upto) ∙ sym n.executed_are

    main_each : AllRecordedBut w.tally.unrecorded w.tally.made (executed_with setting setting.memory.records)
    main_each =
        let r = at_parts setting.program setting.tables (sight setting) (lookup setting) w.named w.tally root w.named.layers (leaving p.value) [] is_root refl at.phase is_bare (records_of setting w.named w.tally w.owns.tallied w.recorded) in
        recorded_end w.tally (stretch r.right.segments) (executed_with setting setting.memory.records) alone.0 (whole_executed w.named.layers w.named.frame r.right is_main) r.recorded

    main_complete : w.tally.unrecorded ≡ 0 → LeaveNothing setting w.tally.made
    main_complete none =
        end_leaves_none setting.program setting.tables setting.memory.records ready.rules.reads numbered ready.sound p.value (lowest s.layer s.lower).worths is_over w.named w.tally p.value is_root at.phase is_bare is_main w.owns.tallied
        ((add_up setting.program).ends w.tally (adds_here w.tally (stretch w.owns.tallied.right.segments) w.owns.tallied.counted w.recorded) alone.0 none)

    main_news : HaveNews setting s.tally
    main_news = record {
      kept = w.tally.made;
      stand = w.stands.tally.made;
      news = w.owns.tallied.made;
      each = subst (λ n. AllRecordedBut n w.tally.made (executed_with setting setting.memory.records)) w.stands.tally.unrecorded main_each;
      complete = λ none. main_complete (w.stands.tally.unrecorded ∙ none);
    }

  -- ---- a piece that ends the run

  pub record Ended (s : PlainStrand) (given : RunAnswer) : Type 0 where
    pub elision : AnswersElision setting given
    pub is_given : IsGiven given
    pub recorded : RecordedBy given s.tally.made

  finished_ends : IsReady setting.program setting.tables setting.memory → IsNumbered setting.program → (s : PlainStrand) → HasFinished s → IsRightBy setting s → (given : RunAnswer) → IsAnswer (ending_of s) (lowest s.layer s.lower).worths s.tally given → Ended s given
  finished_ends ready numbered s p h given a =
      let b = subst (λ (g : Ending). IsAnswer g (lowest s.layer s.lower).worths s.tally given) (ending_over s p) a in
      record {
        elision = subst (λ e. IsElision setting e given) (sym (is_over ready numbered s p h)) (finished p.value (lowest s.layer s.lower).worths s.tally given b);
        is_given = over_given p.value (lowest s.layer s.lower).worths s.tally given b;
        recorded = counted p.value (lowest s.layer s.lower).worths s.tally given b (main_counted ready numbered s p h) (main_news ready numbered s p h);
      }

  faulted_ends : IsReady setting.program setting.tables setting.memory → (s : PlainStrand) (f : Fault) → s.phase ≡ Broken f → same_name (place_of s.start s.path) [] ≡ true → IsRightBy setting s → (given : RunAnswer) → IsAnswer (ending_of s) (lowest s.layer s.lower).worths s.tally given → Ended s given
  faulted_ends ready s f e at_root h given a =
      let c = cut_of setting s f e h in
      let r : c.start ≡ root = root_of c.start (sym (place_named s.start s.phase s.path c.start c.begins) ∙ same_name_true (place_of s.start s.path) [] at_root) in
      let is : from_scratch setting.program.tree setting.tables ≡ elision.Faulted (named_fault setting f) =
      broken_from_scratch setting.program.tree setting.tables (lookup setting) ready.rules.reads (named_fault setting f)
      (subst (λ m. BrokenAt setting.program.tree setting.tables (sight setting) (lookup setting) m (named_fault setting f)) r c.first) in
      let b = subst (λ (g : Ending). IsAnswer g (lowest s.layer s.lower).worths s.tally given) (ending_stopped s f e) a in
      record {
        elision = subst (λ e. IsElision setting e given) (sym is) (faulted f (lowest s.layer s.lower).worths s.tally given b);
        is_given = stopped_given f (lowest s.layer s.lower).worths s.tally given b;
        recorded = none_counted f (lowest s.layer s.lower).worths s.tally s.tally.made given b;
      }

  pub laid_ends : IsReady setting.program setting.tables setting.memory → IsNumbered setting.program → (r : LaidState) (s : PlainStrand) → IsPausedAs setting.codes r s → ends_as r s ≡ true → IsRightBy setting s → (given : RunAnswer) → IsAnswer (ending_of s) (lowest s.layer s.lower).worths s.tally given → Ended s given
  laid_ends ready numbered laid_state.Finished s at e h given a = finished_ends ready numbered s (finished_is setting.codes s at.at) h given a
  laid_ends ready numbered laid_state.Faulted s at e h given a = let f = fault_is setting.codes s at.at in faulted_ends ready s f.0 f.1 e h given a
  laid_ends ready numbered laid_state.Ended s at e h given a = absurd cc
  laid_ends ready numbered laid_state.Stalled s at e h given a = absurd cc

-- ---- the same, whichever sound records by name there are

recorded_all : (setting : Setting) (given : RunAnswer) (made : List PlainRecord) → ((k : Remembers setting) → RecordedBy (recalling setting k) given made) → HasRecorded setting given made
recorded_all setting (answer.Finished v values n m k) made h = h
recorded_all setting (answer.Fault f) made h = tt
recorded_all setting answer.Unfinished made h = tt
recorded_all setting answer.NoMemory made h = tt
recorded_all setting answer.NoKit made h = tt

-- the piece that ends the run, of the strand that it was
pub record PieceEnds (setting : Setting) (s : PlainStrand) (given : RunAnswer) : Type 0 where
  pub elision : AnswersElision setting given
  pub is_given : IsGiven given
  pub recorded : HasRecorded setting given s.tally.made

pub piece_ends : (setting : Setting) → Remembers setting → ((k : Remembers setting) → IsReady setting.program setting.tables (recording_from k.kept)) → IsNumbered setting.program → (r : LaidState) (was s : PlainStrand) → s ≡ was → IsPausedAs setting.codes r was → ends_as r was ≡ true → IsRightStrand setting was → (given : RunAnswer)
    → IsAnswer (ending_of s) (lowest s.layer s.lower).worths s.tally given → PieceEnds setting s given
piece_ends setting sound ready numbered r was s same at e h given a =
    let ends : (k : Remembers setting) → Ended (recalling setting k) s given = λ k. laid_ends (recalling setting k) (ready k) numbered r s (subst (IsPausedAs setting.codes r) (sym same) at) (subst (λ s. ends_as r s ≡ true) (sym same) e) (subst (IsRightBy (recalling setting k)) (sym same) (h k)) given a in
    record { elision = (ends sound).elision; is_given = (ends sound).is_given; recorded = recorded_all setting given s.tally.made (λ k. (ends k).recorded) }
