use Rattle.std.proofs.Common.{◌≡◌, drop, map}
use Rattle.positions.specs.Identities.{are_nil}
use Rattle.positions.proofs.identities.are_empty.Given as goal

abbrev pub invariant-loop-piece : goal.invariant-loop-piece
invariant-loop-piece g l = are_nil (map (λ p. p.items) (drop l.piece-index l.pieces)) ≡ are_nil (map (λ p. p.items) l.pieces)
