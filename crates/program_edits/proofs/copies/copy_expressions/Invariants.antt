use Rattle.std.proofs.Common.{◌≡◌, ◌++◌, map, drop}
use Rattle.meaning.specs.TreeView.{term}
use Rattle.program_edits.proofs.copies.copy_expressions.Given as goal

abbrev pub invariant-loop-expr : goal.invariant-loop-expr
invariant-loop-expr l = map term l.out.items ++ map term (drop l.expr-index l.exprs) ≡ map term l.exprs
