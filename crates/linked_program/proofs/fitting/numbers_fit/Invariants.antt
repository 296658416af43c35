use Rattle.std.proofs.Common.{drop}
use Rattle.std.specs.List.{AllByRecursion}
use Rattle.linked_program.specs.Fitting.{DeclarationFits}
use Rattle.linked_program.proofs.fitting.numbers_fit.Given as goal

abbrev pub invariant-loop-declaration : goal.invariant-loop-declaration
invariant-loop-declaration l = AllByRecursion DeclarationFits (drop l.declaration-index l.program.declarations.items) → AllByRecursion DeclarationFits l.program.declarations.items
