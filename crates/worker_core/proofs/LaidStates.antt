-- A strand is laid down.
use Rattle.std.proofs.Common.{arith, ◌≡◌, ℕ, suc, ◌+◌, true, List, [], ◌∷◌, ◌++◌, take, drop, get_or, Some, None, Result, Ok, Err, refl, sym, ap, subst, ◌∙◌}
use Rattle.std.specs.Prelude.{slice_set as set}
use Rattle.std.proofs.lemmas.List.{set_split}
use Rattle.meaning.specs.Strands.{BookStep}
use Rattle.positions.specs.Setting.{Setting}
use Rattle.positions.specs.declared.phase.Paused.{Paused}
use Rattle.positions.specs.declared.phase.Paused.TheVariants as paused
use Rattle.positions.specs.Strands.{PlainTask}
use Rattle.positions.specs.Advance.{pause_of}
use Rattle.stepped_runs.specs.Pieces.{PlainPiece, Change, place_of, stalled_at, stalled}
use Rattle.stepped_runs.specs.Runs.{among, changed}
use Rattle.numbered_runs.specs.declared.step.State.{State}
use Rattle.numbered_runs.specs.declared.step.State.TheVariants as state
use Rattle.numbered_runs.specs.declared.refusal.Refusal.{Refusal}
use Rattle.numbered_runs.specs.declared.refusal.Refusal.TheVariants.{NotThere, NoMemory}
use Rattle.worker_core.specs.Moves.{RefusedAs, laid_at, laying_noted}
use Rattle.worker_core.specs.Strands.{held_at, laid_down, freed}
use Rattle.worker_core.proofs.Finding.{held_changes, held_within, held_refused}

-- what laying it down is
abbrev pub laying : State → ℕ → PlainPiece → Change
laying s kits p = record { pieces = laid_down s p ∷ []; kits = kits + freed s p; noted = laying_noted s (place_of p) ∷ [] }

abbrev allowed : Change → Result Change Refusal
allowed c = Ok c

-- where no kit comes home
same_kits : (s : State) (kits : ℕ) (p : PlainPiece) → freed s p ≡ 0 → allowed (record { pieces = laid_down s p ∷ []; kits = kits; noted = laying_noted s (place_of p) ∷ [] }) ≡ allowed (laying s kits p)
same_kits s kits p e = ap (λ n. allowed (record { pieces = laid_down s p ∷ []; kits = n; noted = laying_noted s (place_of p) ∷ [] })) (let k : kits ≡ kits + freed s p = omega arith in k)

lays_at : (pa : Paused) (ks : List PlainTask) (s : State) (kits : ℕ) (p : PlainPiece) → laid_at pa ks ≡ Some s → stalled_at pa ks kits p ≡ Ok (laying s kits p)
lays_at paused.Faulted ks s kits p e = let q : state.Faulted ≡ s = cc in subst (λ r. stalled_at paused.Faulted ks kits p ≡ Ok (laying r kits p)) q refl
lays_at paused.AtSync [] s kits p e = let q : state.Stalled ≡ s = cc in subst (λ r. stalled_at paused.AtSync [] kits p ≡ Ok (laying r kits p)) q (same_kits state.Stalled kits p refl)
lays_at paused.Returned [] s kits p e = let q : state.Ended ≡ s = cc in subst (λ r. stalled_at paused.Returned [] kits p ≡ Ok (laying r kits p)) q (same_kits state.Ended kits p refl)
lays_at paused.Finished [] s kits p e = let q : state.Finished ≡ s = cc in subst (λ r. stalled_at paused.Finished [] kits p ≡ Ok (laying r kits p)) q (same_kits state.Finished kits p refl)
lays_at paused.AtSync (k ∷ ks) s kits p e = absurd cc
lays_at paused.Returned (k ∷ ks) s kits p e = absurd cc
lays_at paused.Finished (k ∷ ks) s kits p e = absurd cc
lays_at paused.Working ks s kits p e = absurd cc
lays_at paused.AtSpawn ks s kits p e = absurd cc

none_laid_at : (pa : Paused) (ks : List PlainTask) (kits : ℕ) (p : PlainPiece) → laid_at pa ks ≡ None → stalled_at pa ks kits p ≡ Err NotThere
none_laid_at paused.Faulted ks kits p e = absurd cc
none_laid_at paused.AtSync [] kits p e = absurd cc
none_laid_at paused.Returned [] kits p e = absurd cc
none_laid_at paused.Finished [] kits p e = absurd cc
none_laid_at paused.AtSync (k ∷ ks) kits p e = refl
none_laid_at paused.Returned (k ∷ ks) kits p e = refl
none_laid_at paused.Finished (k ∷ ks) kits p e = refl
none_laid_at paused.Working ks kits p e = refl
none_laid_at paused.AtSpawn ks kits p e = refl

module _ (setting : Setting) (w i : ℕ) (ps : List PlainPiece) (d : PlainPiece) (found : held_at w ps ≡ Some i) where
  -- a worker's strand is laid down
  pub laying_taken : (s : State) (kits : ℕ) (h : List BookStep) → laid_at (pause_of setting.codes (get_or ps i d).strand) (get_or ps i d).deque ≡ Some s
      → changed NotThere w (stalled setting kits) [] ps h ≡ Ok (record { pieces = set ps i (laid_down s (get_or ps i d)); kits = kits + freed s (get_or ps i d); history = h ++ laying_noted s (place_of (get_or ps i d)) ∷ [] })
  laying_taken s kits h e =
      held_changes w i ps NotThere (stalled setting kits) h d found
      ∙ ap (among (take i ps) (drop (suc i) ps) h) (lays_at (pause_of setting.codes (get_or ps i d).strand) (get_or ps i d).deque s kits (get_or ps i d) e)
      ∙ ap (λ xs. Ok (record { pieces = xs; kits = kits + freed s (get_or ps i d); history = h ++ laying_noted s (place_of (get_or ps i d)) ∷ [] })) (sym (set_split ps i (laid_down s (get_or ps i d)) (held_within w i ps found)))

  -- its holder has something to do with it
  pub laying_refused : (kits : ℕ) (h : List BookStep) → laid_at (pause_of setting.codes (get_or ps i d).strand) (get_or ps i d).deque ≡ None → RefusedAs true (changed NotThere w (stalled setting kits) [] ps h) NotThere
  laying_refused kits h e =
      held_refused true w i ps NotThere (stalled setting kits) h d NotThere found
      (subst (λ r. RefusedAs true r NotThere) (sym (none_laid_at (pause_of setting.codes (get_or ps i d).strand) (get_or ps i d).deque kits (get_or ps i d) e)) (let same : NotThere ≡ NotThere = refl in same))

  -- memory is refused for it
  pub laying_lacks : (s : State) (kits : ℕ) (h : List BookStep) → laid_at (pause_of setting.codes (get_or ps i d).strand) (get_or ps i d).deque ≡ Some s
      → RefusedAs true (changed NotThere w (stalled setting kits) [] ps h) NoMemory
  laying_lacks s kits h e = subst (λ r. RefusedAs true r NoMemory) (sym (laying_taken s kits h e)) (let same : NoMemory ≡ NoMemory = refl in same)
