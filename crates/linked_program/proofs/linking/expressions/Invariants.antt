use Rattle.std.proofs.Common.{◌≡◌, map, take}
use Rattle.meaning.specs.TreeView.{term}
use Rattle.linked_program.specs.TableNames.{columned}
use Rattle.linked_program.specs.Linked.{linked_term}
use Rattle.linked_program.specs.CodeView.{expression}
use Rattle.linked_program.proofs.linking.expressions.Given as goal

abbrev pub invariant-loop-expr : goal.invariant-loop-expr
invariant-loop-expr l = map expression l.made.items ≡ map (linked_term (map columned l.tables)) (map term (take l.expr-index l.exprs))
