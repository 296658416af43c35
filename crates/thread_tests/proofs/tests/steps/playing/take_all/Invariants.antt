use Rattle.std.proofs.Common.{◌≡◌}
use Rattle.thread_tests.proofs.tests.steps.playing.take_all.Given as goal

abbrev pub invariant-loop-word : goal.invariant-loop-word
invariant-loop-word g l = l.core.program ≡ l.fn.core.program
