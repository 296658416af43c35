use Rattle.std.proofs.Common.{◌+◌, ◌*◌}
use Rattle.rerun_reasons.specs.Unanswered.{AreUnanswered}
use Rattle.rerun_reasons.proofs.walk.+walk.Given as goal

-- an instance's code: its blocks' levels, and above them the call that enters the next instance
abbrev pub decreases-entered : goal.decreases-entered
decreases-entered l = l.left * 110

abbrev pub decreases-recalled : goal.decreases-recalled
decreases-recalled l = l.left * 110 + 109

abbrev pub decreases-executed : goal.decreases-executed
decreases-executed l = l.left * 110 + 108

abbrev pub decreases-done : goal.decreases-done
decreases-done l = l.left * 110 + 2 + l.levels

abbrev pub decreases-step : goal.decreases-step
decreases-step l = l.left * 110 + 2 + l.levels

abbrev pub decreases-turns : goal.decreases-turns
decreases-turns l = l.left * 110 + 1

abbrev pub invariant-done-loop-instruction : goal.invariant-done-loop-instruction
invariant-done-loop-instruction l = AreUnanswered l.fn.setting l.fn.found.first.items → AreUnanswered l.fn.setting l.found.first.items

abbrev pub invariant-turns-loop-turn : goal.invariant-turns-loop-turn
invariant-turns-loop-turn l = AreUnanswered l.fn.setting l.fn.found.first.items → AreUnanswered l.fn.setting l.found.first.items
