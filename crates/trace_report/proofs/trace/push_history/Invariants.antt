use Rattle.std.proofs.Common.{◌≡◌, ◌++◌, string_bytes, drop}
use Rattle.numbered_runs.specs.Named.{history}
use Rattle.trace_report.specs.Traces.{history_text}
use Rattle.trace_report.proofs.trace.push_history.Given as goal

-- what is written, and then the steps that are left
abbrev pub invariant-loop-step : goal.invariant-loop-step
invariant-loop-step l = string_bytes l.text ++ history_text (history (drop l.step-index l.history)) ≡ string_bytes l.fn.text ++ history_text (history l.fn.history)
