-- A worker's strand is laid down.
use Rattle.std.proofs.Common.{arith, ◌≡◌, ℕ, ◌+◌, true, List, [], ◌∷◌, ◌++◌, length, get_or, Option, Some, None, Result, Ok, Err, refl, sym, ap, subst, ◌∙◌}
use Rattle.std.specs.Prelude.{OnOk, IfErr}
use Rattle.linked_program.specs.Checked.{PlainChecked}
use Rattle.input_tables.specs.Edited.{Edited}
use Rattle.record_theory.specs.Record.{PlainRecord}
use Rattle.positions.specs.Advance.{pause_of}
use Rattle.activations.specs.Given.{setting_over}
use Rattle.stepped_runs.specs.Pieces.{PlainPiece, place_of, stalled}
use Rattle.stepped_runs.specs.Runs.{PlainRun, changed}
use Rattle.numbered_runs.specs.declared.step.State.{State}
use Rattle.numbered_runs.specs.declared.step.State.TheVariants as state
use Rattle.numbered_runs.specs.declared.refusal.Refusal.{Refusal}
use Rattle.numbered_runs.specs.declared.refusal.Refusal.TheVariants.{NotThere}
use Rattle.worker_core.specs.Moves.{RefusedAs, laid_at, laying_noted}
use Rattle.worker_core.specs.Strands.{PlainStrands, run_of, held_at, laid_down, freed, layers_of, LaysDown, IsLaidDown, IsLaid, IsLayingRefused}
use Rattle.worker_core.proofs.LaidStates.{laying_taken, laying_refused, laying_lacks}

some_piece : (w i : ℕ) (ps : List PlainPiece) → held_at w ps ≡ Some i → PlainPiece
some_piece w i [] e = absurd cc
some_piece w i (p ∷ ps) e = p

module _ (program : PlainChecked) (w i : ℕ) (s : PlainStrands) (found : held_at w s.pieces ≡ Some i) where
  abbrev that : PlainPiece
  that = get_or s.pieces i (some_piece w i s.pieces found)

  -- what a laying down by the worker is
  abbrev laying_down : Edited → List PlainRecord → Result PlainRun Refusal
  laying_down tables records = changed NotThere w (stalled (setting_over program tables records) (length s.kits)) [] s.pieces s.history

  abbrev ran : PlainRun → Result PlainRun Refusal
  ran r = Ok r

  run_is : (st : State) (t : PlainStrands) → IsLaidDown i st that s t → ran (run_of t) ≡ ran (record { pieces = t.pieces; kits = length s.kits + freed st that; history = t.history })
  run_is st t h = ap (λ n. ran (record { pieces = t.pieces; kits = n; history = t.history })) h.kits

  taken_by : (o : Option State) (t : PlainStrands) (tables : Edited) (records : List PlainRecord) → laid_at (pause_of program.codes that.strand) that.deque ≡ o → LaysDown o i that s t → laying_down tables records ≡ Ok (run_of t)
  taken_by None t tables records e h = absurd h
  taken_by (Some st) t tables records e h =
      laying_taken (setting_over program tables records) w i s.pieces (some_piece w i s.pieces found) found st (length s.kits) s.history e
      ∙ ap (λ ps. ran (record { pieces = ps; kits = length s.kits + freed st that; history = s.history ++ laying_noted st (place_of that) ∷ [] })) (sym h.pieces)
      ∙ ap (λ hs. ran (record { pieces = t.pieces; kits = length s.kits + freed st that; history = hs })) (sym h.history)
      ∙ sym (run_is st t h)

  refused_by : (o : Option State) (tables : Edited) (records : List PlainRecord) (e : Refusal) → laid_at (pause_of program.codes that.strand) that.deque ≡ o → IsLayingRefused o e → RefusedAs true (laying_down tables records) e
  refused_by None tables records e o h = subst (RefusedAs true (laying_down tables records)) (sym h)
      (laying_refused (setting_over program tables records) w i s.pieces (some_piece w i s.pieces found) found (length s.kits) s.history o)
  refused_by (Some st) tables records e o h = subst (RefusedAs true (laying_down tables records)) (sym h)
      (laying_lacks (setting_over program tables records) w i s.pieces (some_piece w i s.pieces found) found st (length s.kits) s.history o)

  pub stall_taken : {A : Type 0} (r : Result A Refusal) (t : PlainStrands) → OnOk r (IsLaid program.codes i s t) → OnOk r ((tables : Edited) (records : List PlainRecord) → laying_down tables records ≡ Ok (run_of t))
  stall_taken (Ok a) t h = λ tables records. taken_by (laid_at (pause_of program.codes that.strand) that.deque) t tables records refl (h (some_piece w i s.pieces found))
  stall_taken (Err e) t h = tt

  pub stall_refused : {A : Type 0} (r : Result A Refusal) → IfErr r (λ e. (d : PlainPiece) → IsLayingRefused (laid_at (pause_of program.codes (get_or s.pieces i d).strand) (get_or s.pieces i d).deque) e)
      → IfErr r (λ e. (tables : Edited) (records : List PlainRecord) → RefusedAs true (laying_down tables records) e)
  stall_refused (Ok a) h = tt
  stall_refused (Err e) h = λ tables records. refused_by (laid_at (pause_of program.codes that.strand) that.deque) tables records e refl (h (some_piece w i s.pieces found))

-- the kits that come home are those of its upper layers
pub laid_layers : (st : State) (p : PlainPiece) → layers_of (laid_down st p) + freed st p ≡ layers_of p
laid_layers state.Faulted p = omega arith
laid_layers (state.Held w) p = omega arith
laid_layers state.Ended p = omega arith
laid_layers state.Stalled p = omega arith
laid_layers state.Finished p = omega arith
