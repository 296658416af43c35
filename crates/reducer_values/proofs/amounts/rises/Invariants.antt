use Rattle.std.proofs.Common.{◌-◌, ◌≤◌, take, length}
use Rattle.monoid_laws.specs.Kinds.{IsRising}
use Rattle.reducer_values.proofs.amounts.rises.Given as goal

abbrev pub invariant-loop-i : goal.invariant-loop-i
invariant-loop-i l = record {
  from : 1 ≤ l.i;
  rises : IsRising (take l.i l.amounts);
}

abbrev pub decreases-loop-i : goal.decreases-loop-i
decreases-loop-i l = length l.amounts - l.i
