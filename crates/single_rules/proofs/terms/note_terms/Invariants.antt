use Rattle.std.proofs.Common.{◌≡◌, map, drop}
use Rattle.meaning.specs.TreeView.{term}
use Rattle.linked_program.specs.TableNames.{columned}
use Rattle.linked_program.specs.Violations.{noted, at}
use Rattle.linked_program.specs.Rules.{terms_rules}
use Rattle.single_rules.proofs.terms.note_terms.Given as goal

abbrev pub invariant-loop-expr : goal.invariant-loop-expr
invariant-loop-expr l =
    noted l.initial.found (at l.location.declaration l.location.line (terms_rules (map columned l.tables) l.scope (map term l.exprs))) ≡ noted l.found (at l.location.declaration l.location.line (terms_rules (map columned l.tables) l.scope (map term (drop l.expr-index l.exprs))))
