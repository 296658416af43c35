-- Kits and strands of the program's kinds stay so.
use Rattle.std.proofs.Common.{◌≡◌, ℕ, ◌+◌, ◌<◌, List, [], ◌∷◌, ◌++◌, All, length, get_or, sym, subst}
use Rattle.std.specs.Prelude.{slice_set as set}
use Rattle.std.proofs.lemmas.List.Elements.{All-cons, All-nil, All-set, All-get_or}
use Rattle.monoid_laws.specs.declared.Kind.{Kind}
use Rattle.stepped_runs.specs.Pieces.{PlainPiece}
use Rattle.worker_core.specs.Moves.{IsFit}
use Rattle.worker_core.specs.Strands.{PlainStrands, AreFit}

-- one strand has changed, and is fit
pub set_fit : (kinds : List Kind) (s : PlainStrands) (i : ℕ) (q : PlainPiece) → AreFit kinds s → IsFit kinds q → All (IsFit kinds) (set s.pieces i q)
set_fit kinds s i q h f = All-set (IsFit kinds) s.pieces i q f h.pieces

pub one_fit : (kinds : List Kind) (p : PlainPiece) → IsFit kinds p → All (IsFit kinds) (p ∷ [])
one_fit kinds p f = All-cons (IsFit kinds) p [] f (All-nil (IsFit kinds))

-- a strand of those
pub piece_fit : (kinds : List Kind) (s : PlainStrands) (ps : List PlainPiece) (i : ℕ) (p : PlainPiece) → s.pieces ≡ ps → i < length ps → p ≡ get_or ps i p → AreFit kinds s → IsFit kinds p
piece_fit kinds s ps i p e less at h = subst (IsFit kinds) (sym at) (All-get_or (IsFit kinds) ps i p less (subst (All (IsFit kinds)) e h.pieces))
