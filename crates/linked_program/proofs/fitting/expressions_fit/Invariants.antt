use Rattle.std.proofs.Common.{map, drop}
use Rattle.meaning.specs.TreeView.{term}
use Rattle.std.specs.List.{AllByRecursion}
use Rattle.meaning.specs.Fitting.{FitsTerm}
use Rattle.linked_program.proofs.fitting.expressions_fit.Given as goal

abbrev pub invariant-loop-expr : goal.invariant-loop-expr
invariant-loop-expr l = AllByRecursion FitsTerm (map term (drop l.expr-index l.exprs)) → AllByRecursion FitsTerm (map term l.exprs)
