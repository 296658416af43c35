use Rattle.std.proofs.Common.{◌+◌, map, drop, ap, ◌∙◌, refl}
use Rattle.meaning.specs.TreeView.{decl, lined}
use Rattle.linked_program.specs.Violations.{noted}
use Rattle.linked_program.specs.Declarations.{decl_violations, decls_violations}
use Rattle.single_rules.proofs.Lists.{item_here}
use Rattle.single_rules.proofs.Noting.{noted_append}
use Rattle.linked_program.specs.TableNames.{columned}
use Rattle.spawn_checker.proofs.declarations.first_violation.Goals as goal

pub loop-number-preserved : goal.loop-number-preserved
loop-number-preserved c =
    let ds = c.args.declarations.now in
    let t = map decl ds in
    let tables = map columned c.args.tables.now in
    let n = c.loop-number.number in
    let x = c.index-declarations-number.result in
    let rest = drop (n + 1) ds in
    c.loop-number.invariant
    ∙ ap (λ xs. noted c.loop-number.found (decls_violations t tables n (map decl xs) (map lined xs))) (item_here ds n x c.loop-number-test.true c.index-declarations-number.is)
    ∙ noted_append c.loop-number.found (decl_violations t tables n (decl x) (lined x)) (decls_violations t tables (n + 1) (map decl rest) (map lined rest))
    ∙ rw c.in_ok-found.ensures refl
