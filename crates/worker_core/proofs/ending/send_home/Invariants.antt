use Rattle.std.proofs.Common.{◌≡◌, ◌+◌, List, All, length}
use Rattle.monoid_laws.specs.declared.Kind.{Kind}
use Rattle.worker_core.specs.Moves.{IsFit}
use Rattle.worker_core.specs.Strands.{layers_in}
use Rattle.worker_core.proofs.ending.send_home.Given as goal

abbrev pub invariant-loop-piece : goal.invariant-loop-piece
invariant-loop-piece g l = record {
  free : length l.pool.kits + layers_in l.pieces.items ≡ length l.fn.pool.kits + layers_in l.fn.pieces.items;
  total : l.pool.total ≡ l.fn.pool.total;
  pieces : (kinds : List Kind) → All (IsFit kinds) l.fn.pieces.items → All (IsFit kinds) l.pieces.items;
  kits : (kinds : List Kind) → All (IsFit kinds) l.fn.pieces.items → All (λ k. k ≡ kinds) l.fn.pool.kits → All (λ k. k ≡ kinds) l.pool.kits;
}

abbrev pub decreases-loop-piece : goal.decreases-loop-piece
decreases-loop-piece g l = length l.pieces.items
