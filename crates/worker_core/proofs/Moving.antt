-- What a refused move leaves of the strands.
use Rattle.std.proofs.Common.{arith, ◌≡◌, ℕ, zero, suc, ◌+◌, ◌<◌, List, [], ◌∷◌, length, map, get_or, Result, Ok, Err, refl, ap, ◌∙◌}
use Rattle.std.specs.Prelude.{IfErr, slice_set as set}
use Rattle.monoid_laws.specs.declared.Kind.{Kind}
use Rattle.view_pool.specs.Stock.{Stock}
use Rattle.meaning.specs.Strands.{BookStep}
use Rattle.positions.specs.Simulation.{place_of as place_behind}
use Rattle.positions.specs.Strands.{PlainStrand}
use Rattle.stepped_runs.specs.Pieces.{PlainPiece}
use Rattle.stepped_runs.specs.Runs.{line_of}
use Rattle.numbered_runs.specs.declared.refusal.Refusal.{Refusal}
use Rattle.numbered_runs.specs.declared.refusal.Refusal.TheVariants as refusal
use Rattle.worker_core.specs.declared.piece.Move.{Move}
use Rattle.worker_core.specs.declared.piece.Move.TheVariants.{Work, Push, Inline, Pop}
use Rattle.worker_core.specs.Moves.{LeavesPiece, LeavesPool}
use Rattle.worker_core.specs.Folds.{LeavesMoved}
use Rattle.worker_core.specs.Strands.{PlainStrands, layers_of, layers_in}
use Rattle.worker_core.proofs.Kits.{set_layers}

same_set : (ps : List PlainPiece) (i : ℕ) (p : PlainPiece) → i < length ps → p ≡ get_or ps i p → set ps i p ≡ ps
same_set [] i p less at = absurd (omega arith)
same_set (x ∷ ps) zero p less at = ap (λ y. y ∷ ps) at
same_set (x ∷ ps) (suc i) p less at = ap (λ ys. x ∷ ys) (same_set ps i p (omega arith) at)

same_lines : (ps : List PlainPiece) (i : ℕ) (p q : PlainPiece) → i < length ps → p ≡ get_or ps i p → line_of q ≡ line_of p → map line_of (set ps i q) ≡ map line_of ps
same_lines [] i p q less at same = absurd (omega arith)
same_lines (x ∷ ps) zero p q less at same = ap (λ l. l ∷ map line_of ps) (same ∙ ap line_of at)
same_lines (x ∷ ps) (suc i) p q less at same = ap (λ ls. line_of x ∷ ls) (same_lines ps i p q (omega arith) at same)

module _ (ps : List PlainPiece) (i : ℕ) (p q : PlainPiece) (k l : Stock (List Kind)) (h : List BookStep) (less : i < length ps) (at : p ≡ get_or ps i p) (total : l.total ≡ k.total) where
  -- the strands before, and those after
  abbrev pub before_it : PlainStrands
  before_it = record { pieces = ps; kits = k.kits; total = k.total; history = h }

  abbrev pub after_it : PlainStrands
  after_it = record { pieces = set ps i q; kits = l.kits; total = l.total; history = h }

  nothing_moved : q ≡ p → l ≡ k → after_it ≡ before_it
  nothing_moved e f = ap (λ x. record { pieces = set ps i x; kits = l.kits; total = l.total; history = h }) e
      ∙ ap (λ (x : Stock (List Kind)). record { pieces = set ps i p; kits = x.kits; total = x.total; history = h }) f
      ∙ ap (λ xs. record { pieces = xs; kits = k.kits; total = k.total; history = h }) (same_set ps i p less at)

  valued_line : LeavesPiece Work refusal.NoMemory p q → line_of q ≡ line_of p
  valued_line u = ap line_of u.0 ∙ ap (λ (s : PlainStrand). (place_behind s.start s.path, p.state)) u.1

  left_by : (m : Move) (e : Refusal) → LeavesPiece m e p q → LeavesPool m e k l → LeavesMoved m e before_it after_it
  left_by Work refusal.NoMemory u v = record { lines = same_lines ps i p q less at (valued_line u); kits = v; total = total; history = refl }
  left_by Work refusal.Busy u v = nothing_moved u v
  left_by Work refusal.Nothing u v = nothing_moved u v
  left_by Work refusal.NoKit u v = nothing_moved u v
  left_by Work refusal.NotThere u v = nothing_moved u v
  left_by Push e u v = nothing_moved u v
  left_by Inline e u v = nothing_moved u v
  left_by Pop e u v = nothing_moved u v

  pub moves_left : {A : Type 0} (r : Result A Refusal) (m : Move) → IfErr r (λ e. LeavesPiece m e p q) → IfErr r (λ e. LeavesPool m e k l) → IfErr r (λ e. LeavesMoved m e before_it after_it)
  moves_left (Ok a) m u v = tt
  moves_left (Err e) m u v = left_by m e u v

  -- no kit is lost
  pub moves_keep : length l.kits + layers_of q ≡ length k.kits + layers_of p → length l.kits + layers_in (set ps i q) ≡ length k.kits + layers_in ps
  moves_keep same = let sums : layers_in (set ps i q) + layers_of p ≡ layers_in ps + layers_of q = set_layers ps i p less at q in omega arith
