use Rattle.std.proofs.Common.{◌≤◌}
use Rattle.rerun_records.specs.Covers.{AreApart}
use Rattle.rerun_records.proofs.covers.Covers.next_touched.Given as goal

abbrev pub invariant-loop-last : goal.invariant-loop-last
invariant-loop-last l = record {
  within : l.last ≤ l.end;
  apart : AreApart l.list l.change l.last l.end;
}

abbrev pub decreases-loop-last : goal.decreases-loop-last
decreases-loop-last l = l.last
