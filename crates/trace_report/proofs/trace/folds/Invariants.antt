use Rattle.std.proofs.Common.{◌≡◌, ◌≤◌, ◌+◌, drop}
use Rattle.numbered_runs.specs.Named.{history}
use Rattle.trace_report.specs.Traces.{folds_in}
use Rattle.trace_report.proofs.trace.folds.Given as goal

abbrev pub invariant-loop-step : goal.invariant-loop-step
invariant-loop-step l = record {
  within : l.count ≤ l.step-index;
  counted : l.count + folds_in (history (drop l.step-index l.history)) ≡ folds_in (history l.fn.history);
}
