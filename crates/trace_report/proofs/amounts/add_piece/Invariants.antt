use Rattle.std.proofs.Common.{◌≡◌, ℤ, List, drop}
use Rattle.monoid_laws.specs.Kinds.{merge, IsRising}
use Rattle.trace_report.proofs.amounts.add_piece.Given as goal

-- the amounts that are left may be merged into the sums
abbrev pub invariant-loop-key : goal.invariant-loop-key
invariant-loop-key l = record {
  rises : IsRising l.sums.entries;
  added : (rest : List (ℤ × ℤ)) → merge l.sums.entries (merge (drop l.key-index l.piece) rest) ≡ merge l.fn.sums.entries (merge l.fn.piece rest);
}
