use Rattle.std.proofs.Common.{◌≡◌, map, drop}
use Rattle.monoid_laws.specs.Kinds.{merge, merged, IsRising}
use Rattle.trace_report.proofs.amounts.merged.Given as goal

-- the pieces that are left are to be merged into the sums
abbrev pub invariant-loop-piece : goal.invariant-loop-piece
invariant-loop-piece l = record {
  rises : IsRising l.sums.entries;
  whole : merge l.sums.entries (merged (map (λ p. p.items) (drop l.piece-index l.pieces))) ≡ merged (map (λ p. p.items) l.fn.pieces);
}
