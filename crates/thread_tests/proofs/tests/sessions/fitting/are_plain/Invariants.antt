use Rattle.std.proofs.Common.{map, drop}
use Rattle.monoid_laws.specs.Kinds.{meaning, AreWorths}
use Rattle.thread_tests.proofs.tests.sessions.fitting.are_plain.Given as goal

abbrev pub invariant-loop-i : goal.invariant-loop-i
invariant-loop-i l = AreWorths (drop l.i l.kinds) (map meaning (drop l.i l.values)) → AreWorths l.kinds (map meaning l.values)
