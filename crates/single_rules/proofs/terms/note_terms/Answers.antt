use Rattle.std.proofs.Common.{◌+◌, map, drop, ap, sym, ◌∙◌}
use Rattle.meaning.specs.TreeView.{term}
use Rattle.linked_program.specs.TableNames.{columned}
use Rattle.linked_program.specs.Rules.{term_rules, terms_rules}
use Rattle.linked_program.specs.Violations.{noted, at}
use Rattle.single_rules.proofs.Lists.{item_here}
use Rattle.single_rules.proofs.Noting.{noted_more}
use Rattle.single_rules.proofs.terms.note_terms.Goals as goal

pub loop-expr-preserved : goal.loop-expr-preserved
loop-expr-preserved c =
    let tables = map columned c.args.tables.now in
    c.loop-expr.invariant
    ∙ ap (λ xs. noted c.loop-expr.found (at c.args.location.declaration c.args.location.line (terms_rules tables c.args.scope.now (map term xs)))) (item_here c.args.exprs.now c.loop-expr.expr-index c.expr-item.result c.loop-expr-test.true c.expr-item.is)
    ∙ noted_more c.args.location.declaration c.args.location.line c.loop-expr.found (term_rules tables c.args.scope.now (term c.expr-item.result)) (terms_rules tables c.args.scope.now (map term (drop (c.loop-expr.expr-index + 1) c.args.exprs.now)))
    ∙ ap (λ first. noted first (at c.args.location.declaration c.args.location.line (terms_rules tables c.args.scope.now (map term (drop (c.loop-expr.expr-index + 1) c.args.exprs.now))))) (sym c.note_term-found.ensures)
