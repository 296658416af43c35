use Rattle.std.proofs.Common.{◌≡◌, ◌≤◌, ◌+◌, ◌-◌, ◌++◌, drop, length}
use Rattle.monoid_laws.specs.Kinds.{merge}
use Rattle.reducer_values.proofs.adding.merge_amounts.Given as goal

abbrev pub invariant-loop-i : goal.invariant-loop-i
invariant-loop-i l = record {
  left_within : l.i ≤ length l.left;
  right_within : l.j ≤ length l.right;
  so_far : l.sums.items ++ merge (drop l.i l.left) (drop l.j l.right) ≡ merge l.left l.right;
}

abbrev pub decreases-loop-i : goal.decreases-loop-i
decreases-loop-i l = (length l.left - l.i) + (length l.right - l.j)
