use Rattle.std.proofs.Common.{◌≤◌, length}
use Rattle.rerun_records.specs.Skips.{Reaches}
use Rattle.rerun_records.proofs.skips.reach_back.Given as goal

abbrev pub invariant-loop-first : goal.invariant-loop-first
invariant-loop-first l = record {
  few : l.before ≤ length l.skips;
  reaches : Reaches l.list l.skips l.hull l.place l.first l.before;
}

abbrev pub decreases-loop-first : goal.decreases-loop-first
decreases-loop-first l = l.first
