use Rattle.std.proofs.Common.{◌≡◌, take, []}
use Rattle.std.specs.Prelude.{All}
use Rattle.reducer_values.proofs.combining.all_empty.Given as goal

abbrev pub invariant-loop-piece : goal.invariant-loop-piece
invariant-loop-piece g l = All (λ p. p.items ≡ []) (take l.piece-index l.pieces)
