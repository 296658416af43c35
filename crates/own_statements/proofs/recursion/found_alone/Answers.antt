use Rattle.std.proofs.Common.{rules, ◌≡◌, ◌∙◌, ℕ, ℤ, pos, Some, [], if◌then◌else◌, refl, sym, ap, subst, to_z, of_z, w64}
use Rattle.std.specs.Ordering.{int_eq}
use Rattle.evaluation.specs.Values.{pure}
use Rattle.positions.specs.Setting.{setting_with}
use Rattle.own_statements.proofs.OwnCalls.{found_bind, found_sync, found_return, found_if}
use Rattle.own_statements.proofs.recursion.found_alone.Goals as goal

pub returns-in-Some-clause-found : goal.returns-in-Some-clause-found
returns-in-Some-clause-found c ts rs =
    let v = c.in-Some.value in
    let same : v ≡ to_z w64 (of_z w64 v) = search rules in
    found_bind (setting_with c.args.program.now ts [] rs) c.args.procedure c.args.position c.args.statement.now c.args.slots.now c.in-Bind.name c.in-Bind.expression (to_z w64 (of_z w64 v)) c.put.new.slots c.in-Bind.is
    (c.in-Some.ensures.value ts ∙ ap (λ (u : ℤ). pure u) same) c.put.ensures.put

pub returns-after-value-eq0-clause-found : goal.returns-after-value-eq0-clause-found
returns-after-value-eq0-clause-found c ts rs =
    let v = c.in-Some-number.value in
    let chosen : c.if-value-eq0.block ≡ (if int_eq v (pos 0) then c.in-If.second else c.in-If.first) = search rules in
    found_if (setting_with c.args.program.now ts [] rs) c.args.procedure c.args.position c.args.statement.now c.args.slots.now c.in-If.condition c.in-If.first c.in-If.second c.if-value-eq0.block v c.inside.result c.in-If.is
    (c.in-Some-number.ensures.value ts) chosen (c.inside.ensures.inside ts)

pub returns-in-Some-number-2-clause-found : goal.returns-in-Some-number-2-clause-found
returns-in-Some-number-2-clause-found c ts rs =
    let v = c.in-Some-number-2.value in
    let same : v ≡ to_z w64 (of_z w64 v) = search rules in
    found_return (setting_with c.args.program.now ts [] rs) c.args.procedure c.args.position c.args.statement.now c.args.slots.now c.in-Return.expression (to_z w64 (of_z w64 v)) c.args.slots.now c.in-Return.is
    (c.in-Some-number-2.ensures.value ts ∙ ap (λ (u : ℤ). pure u) same)

pub returns-in-Sync-clause-found : goal.returns-in-Sync-clause-found
returns-in-Sync-clause-found c ts rs = found_sync (setting_with c.args.program.now ts [] rs) c.args.procedure c.args.position c.args.statement.now c.args.slots.now c.in-Sync.is
