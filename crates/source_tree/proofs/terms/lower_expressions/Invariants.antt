use Rattle.std.proofs.Common.{◌≡◌, [], map, drop}
use Rattle.meaning.specs.TreeView.{term}
use Rattle.source_tree.specs.Source.{phrases}
use Rattle.source_tree.specs.Lowering.{lower_terms}
use Rattle.source_tree.proofs.terms.lower_expressions.Given as goal

abbrev pub invariant-loop-expr : goal.invariant-loop-expr
invariant-loop-expr l = lower_terms (l.pool, map term l.out.items) (phrases (drop l.expr-index l.exprs)) ≡ lower_terms (l.initial.pool, []) (phrases l.exprs)
