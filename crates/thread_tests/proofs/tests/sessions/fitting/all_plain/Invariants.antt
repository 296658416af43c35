use Rattle.std.proofs.Common.{map, drop}
use Rattle.std.specs.Prelude.{All}
use Rattle.monoid_laws.specs.Kinds.{AreWorths}
use Rattle.serial_oracle.specs.Keeping.{kept}
use Rattle.thread_tests.proofs.tests.sessions.fitting.all_plain.Given as goal

abbrev pub invariant-loop-one : goal.invariant-loop-one
invariant-loop-one l = All (λ k. AreWorths l.kinds k.contribution) (map kept (drop l.one-index l.records)) → All (λ k. AreWorths l.kinds k.contribution) (map kept l.records)
