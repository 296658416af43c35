use Rattle.std.proofs.Common.{rules, List, ◌∙◌, refl, sym, map, w64, FitsSigned}
use Rattle.std.proofs.lemmas.Int.{to_z-of_z}
use Rattle.meaning.specs.declared.tree.Expr.{Expr}
use Rattle.meaning.specs.TreeView.{term}
use Rattle.meaning.specs.Values.{value, values}
use Rattle.serial_oracle.specs.Listing.{tables_plain}
use Rattle.serial_oracle.proofs.Evaluating.{when_done, next_fails, next_gives}
use Rattle.serial_oracle.proofs.expressions.all_values.Goals as goal

pub returns-in-Err : goal.returns-in-Err
returns-in-Err c =
    let ts = tables_plain c.args.tables.now in
    let env = c.args.env.now in
    let x = c.e-item.result in
    next_fails (λ (l : List Expr). values ts env (map term l)) c.args.es.now c.loop-e.e-index x c.loop-e-test.true c.e-item.is (value ts env (term x)) refl
    _ c.loop-e.vs.items c.loop-e.invariant c.in-Err.kind (sym c.evaluate.ensures ∙ c.in-Err.is)

pub loop-e-preserved : goal.loop-e-preserved
loop-e-preserved c =
    let ts = tables_plain c.args.tables.now in
    let env = c.args.env.now in
    let x = c.e-item.result in
    let v = c.in-Ok.v in
    let fits : FitsSigned w64 v = search rules in
    let more = rw (to_z-of_z w64 v fits) at (when_done c.push.result _ _ _ _ c.is_err.ensures.value c.if-is_err.false c.push.ensures.items) in
    next_gives (λ (l : List Expr). values ts env (map term l)) c.args.es.now c.loop-e.e-index x c.loop-e-test.true c.e-item.is (value ts env (term x)) refl
    _ c.loop-e.vs.items c.loop-e.invariant v c.push.new.self.items (sym c.evaluate.ensures ∙ c.in-Ok.is) more
