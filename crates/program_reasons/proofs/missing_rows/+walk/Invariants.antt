use Rattle.std.proofs.Common.{◌+◌, ◌*◌}
use Rattle.program_reasons.proofs.missing_rows.+walk.Given as goal

abbrev pub decreases-entered : goal.decreases-entered
decreases-entered l = l.depth * 100

abbrev pub decreases-done : goal.decreases-done
decreases-done l = l.depth * 100 + l.levels

abbrev pub decreases-step : goal.decreases-step
decreases-step l = l.depth * 100 + l.levels

abbrev pub decreases-turns : goal.decreases-turns
decreases-turns l = l.depth * 100 + l.levels
