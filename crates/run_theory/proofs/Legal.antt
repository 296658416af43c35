-- Whole runs keep a legal history.
use Rattle.std.proofs.Common.{ℕ, List, [], ◌∷◌, Option, ◌≡◌, refl, true, false, Bool}
use Rattle.meaning.specs.Tables.{Tables}
use Rattle.meaning.specs.Records.{Revised}
use Rattle.meaning.specs.Strands.{first_book}
use Rattle.meaning.specs.Schedules.{Memory, RunState, RunStep, work, push, inline, pop, stall, steal, fold, first_state, is_idle, changed, worked, pushed, inlined_of, popped, stalled, stolen_from, folded_at, if_idle, after_step, or_same, path}
use Rattle.strand_theory.specs.Ready.{IsReady}
use Rattle.run_theory.specs.Theorems.{IsRightNow, PathsKeepHistory}
use Rattle.run_theory.proofs.Pieces.{ForSome}
use Rattle.run_theory.proofs.Paths.{kept_or, step_right, begins_right}
use Rattle.run_theory.proofs.Telling.{works_tell, pushes_tell, inlines_tell, pops_tell, stalls_tell, steals_tell}
use Rattle.run_theory.proofs.Histories.{ToldOf, changed_told}
use Rattle.run_theory.proofs.Unions.{folds_told}

module _ (program : Revised) (tables : Tables) (memory : Memory) where
  pub idle_is : (P : RunState → Type 0) (b : Bool) (o : Option RunState) → (b ≡ true → ForSome P o) → ForSome P (if_idle program tables memory b o)
  idle_is P true o h = h refl
  idle_is P false o h = tt

  pub step_told : (s : RunState) (e : RunStep) → IsRightNow program tables memory s → ToldOf s → ForSome ToldOf (after_step program tables memory s e)
  step_told s (work w) r h = changed_told program tables memory w 0 ⊥ (worked program tables memory s.kits) (works_tell program tables memory s.kits w 0 ⊥) [] s.pieces s.history true [] r (λ f. absurd f) h
  step_told s (push w) r h = changed_told program tables memory w 0 ⊥ (pushed program tables memory s.kits) (pushes_tell program tables memory s.kits w 0 ⊥) [] s.pieces s.history true [] r (λ f. absurd f) h
  step_told s (inline w) r h = changed_told program tables memory w 0 ⊥ (inlined_of program tables memory s.kits) (inlines_tell program tables memory s.kits w 0 ⊥) [] s.pieces s.history true [] r (λ f. absurd f) h
  step_told s (pop w) r h = changed_told program tables memory w 0 ⊥ (popped program tables memory s.kits) (pops_tell program tables memory s.kits w 0 ⊥) [] s.pieces s.history true [] r (λ f. absurd f) h
  step_told s (stall w) r h = changed_told program tables memory w 0 ⊥ (stalled program tables memory s.kits) (stalls_tell program tables memory s.kits w 0 ⊥) [] s.pieces s.history true [] r (λ f. absurd f) h
  step_told s (steal t v) r h =
      idle_is ToldOf (is_idle t s.pieces) (changed v (stolen_from program tables memory t s.kits) [] s.pieces s.history)
      (λ e. changed_told program tables memory v t (is_idle t s.pieces ≡ true) (stolen_from program tables memory t s.kits) (steals_tell program tables memory t v s.kits (is_idle t s.pieces ≡ true) e) [] s.pieces s.history true [] r (λ f. f) h)
  step_told s (fold w q) r h =
      idle_is ToldOf (is_idle w s.pieces) (folded_at program tables memory w q s.kits [] s.pieces s.history)
      (λ e. folds_told program tables memory w q s.kits [] s.pieces s.history true [] r e h)

module _ (program : Revised) (tables : Tables) (memory : Memory) (ready : IsReady program tables memory) where
  pub path_told : (es : List RunStep) (s : RunState) → IsRightNow program tables memory s → ToldOf s → ToldOf (path program tables memory s es)
  path_told [] s r h = h
  path_told (e ∷ es) s r h =
      let o = after_step program tables memory s e in
      path_told es (or_same program tables memory s o) (kept_or program tables memory (IsRightNow program tables memory) s o r (step_right program tables memory ready s e r)) (kept_or program tables memory ToldOf s o h (step_told program tables memory s e r h))

  pub begins_told : (kits : ℕ) → ToldOf (first_state program.tree kits)
  begins_told kits = record { book = first_book; replays = refl; lines = refl; ascending = (tt, tt, tt); covered = tt }

  pub paths_history : PathsKeepHistory program tables memory
  paths_history kits es =
      let h = path_told es (first_state program.tree kits) (begins_right program tables memory ready kits) (begins_told kits) in
      (h.book, h.replays, h.lines)
