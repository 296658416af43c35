use Rattle.std.proofs.Common.{◌≡◌, ◌++◌, take, map, vec_len}
use Rattle.monoid_laws.specs.Kinds.{joined}
use Rattle.reducer_values.proofs.joining.join_pieces.Given as goal

abbrev pub invariant-loop-piece : goal.invariant-loop-piece
invariant-loop-piece l = record {
  so_far : l.list.items ≡ l.fn.list.items ++ joined (map (λ p. p.items) (take l.piece-index l.pieces));
  length_was : l.before ≡ vec_len l.fn.list;
}
