use Rattle.std.proofs.Common.{◌≡◌}
use Rattle.thread_tests.proofs.tests.steps.playing.work.Given as goal

abbrev pub invariant-loop : goal.invariant-loop
invariant-loop g l = l.core.program ≡ l.fn.core.program
