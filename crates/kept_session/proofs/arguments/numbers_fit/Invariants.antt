use Rattle.std.proofs.Common.{drop, All}
use Rattle.monoid_laws.specs.Kinds.{Fits}
use Rattle.kept_session.proofs.arguments.numbers_fit.Given as goal

abbrev pub invariant-loop-number : goal.invariant-loop-number
invariant-loop-number l = All Fits (drop l.number-index l.numbers) → All Fits l.numbers
