-- What a run that has finished leaves: its counts and new records.
use Rattle.std.proofs.Common.{◌≡◌, ℕ, ℤ, Bool, true, false, List, [], ◌∷◌, Some, refl, sym, ap, subst, ◌∙◌}
use Rattle.monoid_laws.specs.declared.Val.{Val}
use Rattle.std.specs.declared.vec.Vec.{Vec}
use Rattle.std.specs.Global.{Global}
use Rattle.monoid_laws.specs.Worth.{Worth}
use Rattle.meaning.specs.Elision as elision
use Rattle.meaning.specs.Strands.{State, Held, Ended, Stalled, Faulted, Finished}
use Rattle.meaning.specs.Schedules.{Piece}
use Rattle.run_theory.specs.UnflaggedRuns.{unflagged_run}
use Rattle.record_theory.specs.Record.{PlainRecord}
use Rattle.record_theory.specs.Commits.{put_records}
use Rattle.positions.specs.Setting.{Setting}
use Rattle.positions.specs.declared.phase.Phase.{Phase}
use Rattle.positions.specs.declared.phase.Phase.TheVariants.{Entering, Running, AtSpawn, Returning, Leaving, Broken}
use Rattle.positions.specs.Activations.{PlainActivation}
use Rattle.positions.specs.Layers.{lowest}
use Rattle.positions.specs.Tallies.{PlainTally}
use Rattle.positions.specs.Strands.{PlainStrand}
use Rattle.frames.specs.Answers.{IsAnswer, AreCounts, ending_at}
use Rattle.positions.specs.declared.answer.RunAnswer.{RunAnswer}
use Rattle.positions.specs.declared.answer.RunAnswer.TheVariants as answer
use Rattle.stepped_runs.specs.Pieces.{PlainPiece}
use Rattle.stepped_runs.specs.Ends.{answer_at, answer_in}
use Rattle.strand_theory.specs.Recorded.{AllRecordedBut}
use Rattle.numbered_runs.specs.News.{executed_with, HasCounted, HaveNews, StandForKept}
use Rattle.stepped_runs.specs.Stands.{IsLaidAs, StandForPieces}
use Rattle.stepped_runs.proofs.News.{run_counted, run_recorded}
use Rattle.stepped_runs.proofs.Nexts.{put_sound}
use Rattle.worker_core.specs.Strands.{run_of}
use Rattle.worker_core.specs.Cores.{PlainCore, IsEnd, IsEndOf, made_in, kept_of}
use Rattle.worker_core.proofs.Ends.{alone_is}
use Rattle.numbered_runs.specs.Sound.{AreSoundFor}
use Rattle.worker_core.specs.Keeps.{HasSound, recalling, KeepsRun, StaysRun, HasRecorded, StaySound}
use Rattle.numbered_runs.specs.Recorded.{tally_of}

-- a run that has finished, with those counts
pub record HasFinished (setting : Setting) (ps : List PlainPiece) (executed reused unrecorded : ℕ) : Type 0 where
  pub piece : PlainPiece
  pub alone : ps ≡ piece ∷ []
  pub value : ℤ
  pub answers : answer_in setting ps ≡ Some (elision.Finished value piece.strand.layer.worths)
  pub counts : AreCounts piece.strand.tally executed reused unrecorded

module _ (setting : Setting) (n m u : ℕ) where
  -- the answer by numbers, and the counts
  abbrev Answered : State → Phase → List Worth → PlainTally → Type 0
  Answered st ph ws t = (v : ℤ) × (answer_at setting st ph ws ≡ Some (elision.Finished v ws)) × AreCounts t n m u

  at_main : (ph : Phase) (below : List PlainActivation) (path : List ℕ) (ws vs : List Worth) (t : PlainTally) (w : ℤ) (got : Vec Val Global) → IsAnswer (ending_at ph below path) ws t (answer.Finished w got n m u) → Answered Finished ph vs t
  at_main (Leaving v) [] [] ws vs t w got h = (v, refl, h.2)
  at_main (Leaving v) [] (j ∷ path) ws vs t w got h = absurd h
  at_main (Leaving v) (p ∷ below) path ws vs t w got h = absurd h
  at_main (Broken f) below path ws vs t w got h = absurd h
  at_main Entering below path ws vs t w got h = absurd h
  at_main Running below path ws vs t w got h = absurd h
  at_main AtSpawn below path ws vs t w got h = absurd h
  at_main (Returning v) below path ws vs t w got h = absurd h

  no_result : (ph : Phase) (s : PlainStrand) (ws : List Worth) (w : ℤ) (got : Vec Val Global) → IsLaidAs Faulted ph s → IsAnswer (ending_at ph s.below s.path) ws s.tally (answer.Finished w got n m u) → ⊥
  no_result (Broken f) s ws w got l h = h
  no_result (Leaving v) s ws w got l h = l
  no_result Entering s ws w got l h = l
  no_result Running s ws w got l h = l
  no_result AtSpawn s ws w got l h = l
  no_result (Returning v) s ws w got l h = l

  at_state : (st : State) (p : PlainPiece) (w : ℤ) (got : Vec Val Global) → st ≡ p.state → IsLaidAs st p.strand.phase p.strand → IsEndOf st p (answer.Finished w got n m u) → HasFinished setting (p ∷ []) n m u
  at_state Finished p w got e l h =
      let a : Answered Finished p.strand.phase p.strand.layer.worths p.strand.tally = at_main p.strand.phase p.strand.below p.strand.path (lowest p.strand.layer p.strand.lower).worths p.strand.layer.worths p.strand.tally w got h in
      record { piece = p; alone = refl; value = a.0; answers = subst (λ st. answer_at setting st p.strand.phase p.strand.layer.worths ≡ Some (elision.Finished a.0 p.strand.layer.worths)) e a.1; counts = a.2 }
  at_state Faulted p w got e l h = absurd (no_result p.strand.phase p.strand (lowest p.strand.layer p.strand.lower).worths w got l h)
  at_state (Held v) p w got e l h = absurd h
  at_state Ended p w got e l h = absurd h
  at_state Stalled p w got e l h = absurd h

module _ (c : PlainCore) (h : KeepsRun c.program c.tables c.records c.strands) where
  has_finished : (k : HasSound c) (n m u : ℕ) (ps : List PlainPiece) (xs : List Piece) (w : ℤ) (got : Vec Val Global) → StandForPieces (recalling c k) ps xs → IsEnd false ps (answer.Finished w got n m u) → HasFinished (recalling c k) ps n m u
  has_finished k n m u [] xs w got s e = absurd cc
  has_finished k n m u (p ∷ []) xs w got s e = at_state (recalling c k) n m u p.state p w got refl (alone_is c.program c.tables c.records k p xs s) e
  has_finished k n m u (p ∷ q ∷ ps) xs w got s e = absurd cc

  finished_by : (k : HasSound c) (n m u : ℕ) (w : ℤ) (got : Vec Val Global) → IsEnd false c.strands.pieces (answer.Finished w got n m u) → HasFinished (recalling c k) c.strands.pieces n m u
  finished_by k n m u w got e = has_finished k n m u c.strands.pieces (unflagged_run (h.path k).run).pieces w got (h.path k).stands.pieces e

  counted_by : (k : HasSound c) (n m u : ℕ) (made : List PlainRecord) → HasFinished (recalling c k) c.strands.pieces n m u → HasCounted (recalling c k) (tally_of n m u made)
  counted_by k n m u made f =
      let counted : HasCounted (recalling c k) f.piece.strand.tally =
      run_counted (recalling c k) (h.prepared k) (run_of c.strands) (h.path k).run (h.path k).reached (h.path k).stands f.piece f.value f.piece.strand.layer.worths f.alone f.answers in
      record { executed_are = f.counts.executed_is ∙ counted.executed_are; reused_are = f.counts.reused_is ∙ counted.reused_are }

  news_by : (k : HasSound c) (n m u : ℕ) (made : List PlainRecord) (f : HasFinished (recalling c k) c.strands.pieces n m u) → made ≡ made_in c.strands.pieces → HaveNews (recalling c k) (tally_of n m u made)
  news_by k n m u made f is =
      let news : HaveNews (recalling c k) f.piece.strand.tally =
      run_recorded (recalling c k) (h.prepared k) (run_of c.strands) (h.path k).run (h.path k).reached (h.path k).stands f.piece f.value f.piece.strand.layer.worths f.alone f.answers in
      record {
        kept = news.kept;
        stand = subst (λ ms. StandForKept (recalling c k) ms news.kept) (sym (is ∙ ap made_in f.alone)) news.stand;
        news = news.news;
        each = subst (λ r. AllRecordedBut r news.kept (executed_with (recalling c k) (recalling c k).memory.records)) (sym f.counts.unrecorded_is) news.each;
        complete = λ e. news.complete (sym f.counts.unrecorded_is ∙ e);
      }

  recorded_by : (given : RunAnswer) (made : List PlainRecord) → IsEnd false c.strands.pieces given → made ≡ kept_of given (made_in c.strands.pieces) → HasRecorded c given made
  recorded_by (answer.Finished w got n m u) made e is = λ k.
      let f : HasFinished (recalling c k) c.strands.pieces n m u = finished_by k n m u w got e in
      (counted_by k n m u made f, news_by k n m u made f is)
  recorded_by (answer.Fault f) made e is = is
  recorded_by answer.Unfinished made e is = is
  recorded_by answer.NoMemory made e is = is
  recorded_by answer.NoKit made e is = is

  none_new : (made : List PlainRecord) → made ≡ [] → StaySound c made
  none_new made e = subst (λ ms. AreSoundFor c.program (put_records c.records ms)) (sym e) h.sound

  sound_by : (given : RunAnswer) (made : List PlainRecord) → IsEnd false c.strands.pieces given → made ≡ kept_of given (made_in c.strands.pieces) → StaySound c made
  sound_by (answer.Finished w got n m u) made e is =
      put_sound (recalling c h.sound) (h.prepared h.sound) (tally_of n m u made) (news_by h.sound n m u made (finished_by h.sound n m u w got e) is)
  sound_by (answer.Fault f) made e is = none_new made is
  sound_by answer.Unfinished made e is = none_new made is
  sound_by answer.NoMemory made e is = none_new made is
  sound_by answer.NoKit made e is = none_new made is

module _ (c : PlainCore) (given : RunAnswer) (made : List PlainRecord) where
  -- of a run that has failed nothing is kept
  none_kept : given ≡ answer.NoMemory → made ≡ kept_of given (made_in c.strands.pieces) → made ≡ []
  none_kept e is = is ∙ ap (λ g. kept_of g (made_in c.strands.pieces)) e

  recorded_if : (failed : Bool) → StaysRun failed c.program c.tables c.records c.workers c.strands → IsEnd failed c.strands.pieces given → made ≡ kept_of given (made_in c.strands.pieces) → HasRecorded c given made
  recorded_if false h e is = recorded_by c h.0 given made e is
  recorded_if true h e is = subst (λ g. HasRecorded c g made) (sym e) (none_kept e is)

  pub recorded : StaysRun c.failed c.program c.tables c.records c.workers c.strands → IsEnd c.failed c.strands.pieces given → made ≡ kept_of given (made_in c.strands.pieces) → HasRecorded c given made
  recorded h e is = recorded_if c.failed h e is

  sound_if : (failed : Bool) → StaysRun failed c.program c.tables c.records c.workers c.strands → IsEnd failed c.strands.pieces given → made ≡ kept_of given (made_in c.strands.pieces) → StaySound c made
  sound_if false h e is = sound_by c h.0 given made e is
  sound_if true h e is = subst (λ ms. AreSoundFor c.program (put_records c.records ms)) (sym (none_kept e is)) h.1.sound

  pub stay_sound : StaysRun c.failed c.program c.tables c.records c.workers c.strands → IsEnd c.failed c.strands.pieces given → made ≡ kept_of given (made_in c.strands.pieces) → StaySound c made
  stay_sound h e is = sound_if c.failed h e is
