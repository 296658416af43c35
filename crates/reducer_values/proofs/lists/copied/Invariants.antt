use Rattle.std.proofs.Common.{◌≡◌, take, map}
use Rattle.reducer_values.proofs.lists.copied.Given as goal

abbrev pub invariant-loop-piece : goal.invariant-loop-piece
invariant-loop-piece l = map (λ p. p.items) l.copies.items ≡ map (λ p. p.items) (take l.piece-index l.pieces)
