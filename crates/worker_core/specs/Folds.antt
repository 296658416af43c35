-- Two neighbours that become one, and what a step leaves that memory was refused for.
use Rattle.std.specs.Prelude.{◌≡◌, ◌⊎◌, ℕ, suc, ◌+◌, true, List, [], ◌++◌, ◌∷◌, take, drop, map, length, slice_index_or}
use Rattle.meaning.specs.Strands.{Fold}
use Rattle.stepped_runs.specs.Pieces.{PlainPiece, place_of, may_fold, folded}
use Rattle.stepped_runs.specs.Runs.{PlainRun, line_of}
use Rattle.stepped_runs.specs.Halves.{AreHalfFolded}
use Rattle.numbered_runs.specs.declared.refusal.Refusal.{Refusal}
use Rattle.numbered_runs.specs.declared.refusal.Refusal.TheVariants.{NoMemory}
use Rattle.worker_core.specs.declared.piece.Move.{Move}
use Rattle.worker_core.specs.declared.piece.Move.TheVariants.{Work}
use Rattle.worker_core.specs.Strands.{PlainStrands}

-- nothing has changed but the values of two neighbours, whose product is the same; nothing at all where no view was folded
abbrev pub KeepsProducts : PlainStrands → PlainStrands → Type 0
KeepsProducts s t = (t ≡ s) ⊎ ((t ≡ record s { pieces = t.pieces }) × AreHalfFolded s.pieces t.pieces)

-- the strands begin where they began, and are held and laid down as they were; so many kits are free, and nothing was noted
pub record KeepsLines (s t : PlainStrands) : Type 0 where
  pub lines : map line_of t.pieces ≡ map line_of s.pieces
  pub kits : length t.kits ≡ length s.kits
  pub total : t.total ≡ s.total
  pub history : t.history ≡ s.history

-- what a refused fold leaves
abbrev pub LeavesFolded : Refusal → PlainStrands → PlainStrands → Type 0
LeavesFolded NoMemory s t = KeepsProducts s t
LeavesFolded _ s t = t ≡ s

-- what a refused move leaves
abbrev pub LeavesMoved : Move → Refusal → PlainStrands → PlainStrands → Type 0
LeavesMoved Work NoMemory s t = KeepsLines s t
LeavesMoved _ _ s t = t ≡ s

-- the strand of that number and its right neighbour may become one
abbrev pub MayFoldAt : ℕ → List PlainPiece → Type 0
MayFoldAt i ps = (d : PlainPiece) → may_fold (slice_index_or ps i d) (slice_index_or ps (i + 1) d) ≡ true

-- the strand of that number and its right neighbour have become one
abbrev pub IsFoldedAt : ℕ → ℕ → PlainRun → PlainRun → Type 0
IsFoldedAt w i s t =
    (d : PlainPiece) → t ≡ record {
      pieces = take i s.pieces ++ folded w (slice_index_or s.pieces i d) (slice_index_or s.pieces (i + 1) d) ∷ drop (suc (suc i)) s.pieces;
      kits = s.kits + 1;
      history = s.history ++ Fold (place_of (slice_index_or s.pieces i d)) (place_of (slice_index_or s.pieces (i + 1) d)) w ∷ [];
    }
