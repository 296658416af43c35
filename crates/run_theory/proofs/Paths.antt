-- Whole runs: each step, each path and each end.
use Rattle.std.proofs.Common.{ℕ, List, [], ◌∷◌, Option, Some, None, ◌≡◌, inl, inr, refl, sym, subst, false, true, Bool}
use Rattle.meaning.specs.Tables.{Tables}
use Rattle.meaning.specs.Elision.{Answer, from_scratch}
use Rattle.meaning.specs.Records.{Revised}
use Rattle.meaning.specs.SmallStep.{Start, root, behind, Frame, Phase, entering, running, spawning, returning, leaving, broken, Parent, Continuation}
use Rattle.meaning.specs.Layers.{Notes}
use Rattle.meaning.specs.Strands.{State, Held, Ended, Stalled}
use Rattle.meaning.specs.Strands as strands
use Rattle.meaning.specs.Tallies.{Tally}
use Rattle.meaning.specs.Schedules.{Memory, Piece, RunState, RunStep, work, push, inline, pop, stall, steal, fold, first_state, is_idle, changed, worked, pushed, inlined_of, popped, stalled, stolen_from, folded_at, if_idle, after_step, or_same, path, answer_by, answer_of_pieces, end_of}
use Rattle.trail_theory.proofs.Ends.{first_right}
use Rattle.trail_theory.proofs.Theorems.{ends_reading}
use Rattle.run_theory.specs.RightRuns.{Begins}
use Rattle.strand_theory.specs.Faults.{BrokenAt}
use Rattle.strand_theory.specs.Ready.{IsReady}
use Rattle.run_theory.specs.Theorems.{IsRightNow, StepsStayRight, PathsAreRight, RightRunsAnswer, PathsAnswer}
use Rattle.run_theory.proofs.Pieces.{ForSome, some_is, FitAfter, changed_fits}
use Rattle.strand_theory.proofs.Broken.{broken_from_scratch}
use Rattle.run_theory.proofs.Steps.{piece_of, FitPiece, works_fit, pushes_fit, inlines_fit, pops_fit}
use Rattle.strand_theory.proofs.Laws.{S, L, law, sound}
use Rattle.run_theory.proofs.Steals.{steals_fit}
use Rattle.run_theory.proofs.Stalls.{broken_of, stalls_fit}
use Rattle.run_theory.proofs.Folds.{folds_fit}

pub begins_root : (m : Start) → Begins true m → m ≡ root
begins_root root h = refl
begins_root (behind m k) h = absurd h

module _ (program : Revised) (tables : Tables) (memory : Memory) where
  pub idle : (P : RunState → Type 0) (b : Bool) (o : Option RunState) → ForSome P o → ForSome P (if_idle program tables memory b o)
  idle P true o h = h
  idle P false o h = tt

  pub kept_or : (P : RunState → Type 0) (s : RunState) (o : Option RunState) → P s → ForSome P o → P (or_same program tables memory s o)
  kept_or P s None h k = h
  kept_or P s (Some t) h k = k

module _ (program : Revised) (tables : Tables) (memory : Memory) (ready : IsReady program tables memory) where
  pub step_right : (s : RunState) (e : RunStep) → IsRightNow program tables memory s → ForSome (IsRightNow program tables memory) (after_step program tables memory s e)
  step_right s (work w) h = changed_fits program.tree tables (S program tables memory) (L program tables memory) w (worked program tables memory s.kits) (works_fit program tables memory (law program tables memory ready) ready.rules (sound program tables memory ready) s.kits w) [] s.pieces s.history true [] h
  step_right s (push w) h = changed_fits program.tree tables (S program tables memory) (L program tables memory) w (pushed program tables memory s.kits) (pushes_fit program tables memory (law program tables memory ready) ready.rules (sound program tables memory ready) s.kits w) [] s.pieces s.history true [] h
  step_right s (inline w) h = changed_fits program.tree tables (S program tables memory) (L program tables memory) w (inlined_of program tables memory s.kits) (inlines_fit program tables memory (law program tables memory ready) ready.rules (sound program tables memory ready) s.kits w) [] s.pieces s.history true [] h
  step_right s (pop w) h = changed_fits program.tree tables (S program tables memory) (L program tables memory) w (popped program tables memory s.kits) (pops_fit program tables memory (law program tables memory ready) ready.rules (sound program tables memory ready) s.kits w) [] s.pieces s.history true [] h
  step_right s (stall w) h = changed_fits program.tree tables (S program tables memory) (L program tables memory) w (stalled program tables memory s.kits) (stalls_fit program tables memory s.kits w) [] s.pieces s.history true [] h
  step_right s (steal t v) h =
      idle program tables memory (IsRightNow program tables memory) (is_idle t s.pieces) (changed v (stolen_from program tables memory t s.kits) [] s.pieces s.history)
      (changed_fits program.tree tables (S program tables memory) (L program tables memory) v (stolen_from program tables memory t s.kits) (steals_fit program tables memory t v s.kits) [] s.pieces s.history true [] h)
  step_right s (fold w q) h =
      idle program tables memory (IsRightNow program tables memory) (is_idle w s.pieces) (folded_at program tables memory w q s.kits [] s.pieces s.history)
      (folds_fit program tables memory (law program tables memory ready) w q s.kits [] s.pieces s.history true [] h)

  pub steps_right : StepsStayRight program tables memory
  steps_right s t e h q = some_is (IsRightNow program tables memory) (after_step program tables memory s e) t (step_right s e h) q

  path_right : (es : List RunStep) (s : RunState) → IsRightNow program tables memory s → IsRightNow program tables memory (path program tables memory s es)
  path_right [] s h = h
  path_right (e ∷ es) s h = path_right es (or_same program tables memory s (after_step program tables memory s e)) (kept_or program tables memory (IsRightNow program tables memory) s (after_step program tables memory s e) h (step_right s e h))

  pub begins_right : (kits : ℕ) → IsRightNow program tables memory (first_state program.tree kits)
  begins_right kits = (
    [],
    record {
      begins = tt;
      as_long = refl;
      fits = inl (record { right = first_right program.tree tables (S program tables memory) (L program tables memory); links = refl; own = false ∷ []; flags = refl; layers = refl; closed = tt });
      deque = tt;
      laid = tt;
    },
    refl,
  )

  pub paths_right : PathsAreRight program tables memory
  paths_right kits es = path_right es (first_state program.tree kits) (begins_right kits)

  -- ---- the end

  abbrev IsAnswer : Answer → Type 0
  IsAnswer a = a ≡ from_scratch program.tree tables

  answer_at : (found later : List Bool) (m : Start) (ls : List Notes) (fr : Frame) (ph : Phase) (t : List Parent) (ks : List Continuation) (st : State) (ta : Tally)
      → FitPiece program tables memory true (piece_of m ls fr ph t ks st ta) found later [] → ForSome IsAnswer (answer_by st ph ls)
  answer_at found later m (l ∷ []) fr (leaving v) t ks strands.Finished ta i =
      elim i.fits [
        | inr c ↦ absurd (let q : leaving v ≡ broken c.fault = c.phase in cc)
        | inl h ↦ sym (ends_reading program.tree tables (L program tables memory) ready.rules.reads (piece_of m (l ∷ []) fr (leaving v) t ks strands.Finished ta).strand v l (begins_root m i.begins) refl i.laid.under i.laid.main refl h.right)
      ]
  answer_at found later m ls fr (broken k) t ks strands.Faulted ta i =
      let b = broken_of program tables memory true m ls fr k t ks strands.Faulted ta found later [] i in
      sym (broken_from_scratch program.tree tables (L program tables memory) ready.rules.reads k (subst (λ w. BrokenAt program.tree tables (S program tables memory) (L program tables memory) w k) (begins_root m i.begins) b.0))
  answer_at found later m [] fr (leaving v) t ks strands.Finished ta i = tt
  answer_at found later m (l ∷ k ∷ ls) fr (leaving v) t ks strands.Finished ta i = tt
  answer_at found later m ls fr (entering child) t ks strands.Finished ta i = tt
  answer_at found later m ls fr (running todo) t ks strands.Finished ta i = tt
  answer_at found later m ls fr (spawning d x child todo) t ks strands.Finished ta i = tt
  answer_at found later m ls fr (returning v) t ks strands.Finished ta i = tt
  answer_at found later m ls fr (broken k) t ks strands.Finished ta i = tt
  answer_at found later m ls fr (entering child) t ks strands.Faulted ta i = tt
  answer_at found later m ls fr (running todo) t ks strands.Faulted ta i = tt
  answer_at found later m ls fr (spawning d x child todo) t ks strands.Faulted ta i = tt
  answer_at found later m ls fr (returning v) t ks strands.Faulted ta i = tt
  answer_at found later m ls fr (leaving v) t ks strands.Faulted ta i = tt
  answer_at found later m ls fr ph t ks (Held w) ta i = tt
  answer_at found later m ls fr ph t ks Ended ta i = tt
  answer_at found later m ls fr ph t ks Stalled ta i = tt

  answer_of : (s : RunState) (ps : List Piece) → s.pieces ≡ ps → IsRightNow program tables memory s → ForSome IsAnswer (answer_of_pieces ps)
  answer_of s [] e h = tt
  answer_of s (p ∷ []) e h =
      let g = subst (λ ps. FitAfter program.tree tables (S program tables memory) (L program tables memory) true [] (record { pieces = ps; kits = s.kits; history = s.history })) e h in
      answer_at [] g.0 p.strand.start p.strand.layers p.strand.frame p.strand.phase p.strand.under p.deque p.state p.tally g.1
  answer_of s (p ∷ q ∷ ps) e h = tt

  pub runs_answer : RightRunsAnswer program tables memory
  runs_answer s a h e = some_is IsAnswer (end_of s) a (answer_of s s.pieces refl h) e

  pub paths_answer : PathsAnswer program tables memory
  paths_answer kits es a e = runs_answer (path program tables memory (first_state program.tree kits) es) a (paths_right kits es) e
