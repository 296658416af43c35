use Rattle.std.proofs.Common.{Bool, refl, sym, subst}
use Rattle.linked_program.specs.declared.code.Operation.{Operation}
use Rattle.linked_program.specs.declared.code.Operation.TheVariants as o
use Rattle.linked_program.specs.CodeView.{expression}
use Rattle.evaluation.specs.Values.{value_at}
use Rattle.positions.specs.Advance.{evaluated, binding, choosing, giving, performed}
use Rattle.activations.specs.Given.{lent}
use Rattle.own_statements.specs.Paths.{Does}
use Rattle.own_statements.proofs.Paths.{does_as}
use Rattle.own_statements.proofs.Updates.{does_update}
use Rattle.own_statements.proofs.statements.evaluate_apart.Goals as goal

pub returns-in-Bind-clause-done : goal.returns-in-Bind-clause-done
returns-in-Bind-clause-done g c =
    let S = lent c.args.setting in
    let passes = c.args.here.passes_syncs in
    let n = c.args.here.statement in
    let p = c.args.here.position in
    let a = c.args.top.now in
    let l = c.args.layer.now in
    let did = c.bind_evaluated.result in
    let b = c.bind_evaluated.new.top in
    let m = c.bind_evaluated.new.layer in
    subst (λ (op : Operation). Does passes p (λ kit. performed S kit p n op) a l did b m) (sym c.in-Bind.is)
    (does_as S passes p (λ (kit : Bool). evaluated n (value_at S.tables a.slots (expression c.in-Bind.value)) (binding p c.in-Bind.name)) (λ kit. performed S kit p n (o.Bind c.in-Bind.name c.in-Bind.value)) a l did b m (λ kit s. refl) c.bind_evaluated.ensures.done)

pub returns-in-If-clause-done : goal.returns-in-If-clause-done
returns-in-If-clause-done g c =
    let S = lent c.args.setting in
    let passes = c.args.here.passes_syncs in
    let n = c.args.here.statement in
    let p = c.args.here.position in
    let a = c.args.top.now in
    let l = c.args.layer.now in
    let did = c.choose_evaluated.result in
    let b = c.choose_evaluated.new.top in
    let m = c.choose_evaluated.new.layer in
    subst (λ (op : Operation). Does passes p (λ kit. performed S kit p n op) a l did b m) (sym c.in-If.is)
    (does_as S passes p (λ (kit : Bool). evaluated n (value_at S.tables a.slots (expression c.in-If.condition)) (choosing p c.in-If.first c.in-If.second)) (λ kit. performed S kit p n (o.If c.in-If.condition c.in-If.first c.in-If.second)) a l did b m (λ kit s. refl) c.choose_evaluated.ensures.done)

pub returns-in-Return-clause-done : goal.returns-in-Return-clause-done
returns-in-Return-clause-done g c =
    let S = lent c.args.setting in
    let passes = c.args.here.passes_syncs in
    let n = c.args.here.statement in
    let p = c.args.here.position in
    let a = c.args.top.now in
    let l = c.args.layer.now in
    let did = c.give_evaluated.result in
    let b = c.give_evaluated.new.top in
    let m = c.give_evaluated.new.layer in
    subst (λ (op : Operation). Does passes p (λ kit. performed S kit p n op) a l did b m) (sym c.in-Return.is)
    (does_as S passes p (λ (kit : Bool). evaluated n (value_at S.tables a.slots (expression c.in-Return.value)) giving) (λ kit. performed S kit p n (o.Return c.in-Return.value)) a l did b m (λ kit s. refl) c.give_evaluated.ensures.done)

pub returns-in-Update-clause-done : goal.returns-in-Update-clause-done
returns-in-Update-clause-done g c =
    does_update (lent c.args.setting) c.args.here.passes_syncs c.args.here.position c.args.here.statement c.in-Update.reducer c.in-Update.values c.as_slice.result.now c.args.operation.now
    c.args.top.now c.args.layer.now c.update_by_all.result c.update_by_all.new.top c.update_by_all.new.layer c.in-Update.is c.as_slice.ensures.value c.update_by_all.ensures.done
