use Rattle.std.proofs.Common.{◌≡◌, map, drop}
use Rattle.linked_program.specs.CodeView.{expression as plain}
use Rattle.answered_loops.specs.Arguments.{are_fixed}
use Rattle.loop_answers.proofs.finding.are_fixed.Given as goal

abbrev pub invariant-loop-argument : goal.invariant-loop-argument
invariant-loop-argument l = are_fixed l.variable (map plain (drop l.argument-index l.arguments)) ≡ are_fixed l.variable (map plain l.arguments)
