use Rattle.std.proofs.Common.{drop}
use Rattle.std.specs.List.{AllByRecursion}
use Rattle.monoid_laws.specs.Kinds.{Fits}
use Rattle.linked_program.proofs.fitting.initial_fits.Given as goal

abbrev pub invariant-loop-number : goal.invariant-loop-number
invariant-loop-number l = AllByRecursion Fits (drop l.number-index l.numbers) → AllByRecursion Fits l.numbers
