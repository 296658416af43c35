use Rattle.std.proofs.Common.{◌≤◌, length, drop}
use Rattle.reuse_planner.specs.Driven.{IsSameRun}
use Rattle.reuse_planner.proofs.Taking.{TakesAll}
use Rattle.reuse_planner.proofs.running.drive.Given as goal

-- with what is left all steps are taken, and no more of them as inlines than there are
abbrev pub invariant-loop-step : goal.invariant-loop-step
invariant-loop-step g l = record {
  same : IsSameRun l.fn.core l.core;
  within : l.inlined ≤ l.step-index;
  short : l.inlined ≤ length l.steps;
  takes : TakesAll l.steps (drop l.step-index l.steps) l.inlined l.fn.core l.core;
}
