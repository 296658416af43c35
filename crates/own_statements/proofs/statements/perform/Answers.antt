use Rattle.std.proofs.Common.{rules, ◌≡◌, ◌∙◌, ℤ, List, [], ◌∷◌, ap, map, slice_get, refl, sym, subst, to_z, of_z, w64}
use Rattle.linked_program.specs.declared.code.Target.TheVariants as target
use Rattle.linked_program.specs.CodeView.{act, expression}
use Rattle.evaluation.specs.declared.slot.Slot.{Slot}
use Rattle.evaluation.specs.Values.{pure, value_at, values_at}
use Rattle.positions.specs.Advance.{combining, evaluated, performed}
use Rattle.activations.specs.Given.{lent}
use Rattle.own_statements.specs.Effects.{HasValue, goes_on}
use Rattle.own_statements.specs.Fills.{Fills}
use Rattle.own_statements.proofs.Shorts.{numbered, comes, short_sync, short_update, short_value}
use Rattle.own_statements.proofs.statements.perform.Goals as goal

pub update_one-requires-clause-takes : goal.update_one-requires-clause-takes
update_one-requires-clause-takes g c κs within = (c.in-One.ensures.effect (lent c.args.setting).kinds numbered (c.requires.short numbered)).3

pub put-requires-clause-takes : goal.put-requires-clause-takes
put-requires-clause-takes g c κs within = (c.in-Value.ensures.effect (lent c.args.setting).kinds numbered (c.requires.short numbered)).3

pub update_two-requires-clause-takes : goal.update_two-requires-clause-takes
update_two-requires-clause-takes g c κs within = (c.in-Two.ensures.effect (lent c.args.setting).kinds numbered (c.requires.short numbered)).3

pub returns-in-Sync-clause-done : goal.returns-in-Sync-clause-done
returns-in-Sync-clause-done g c =
    let S = lent c.args.setting in
    let passes = c.args.passes_syncs in
    let i = c.args.instruction.now in
    let p = c.args.position in
    let a = c.args.top.now in
    let l = c.args.layer.now in
    let is = c.in-Sync.ensures.effect S.kinds numbered (c.requires.short numbered) in
    comes S passes p (λ kit. performed S kit p i.number i.operation) a l c.pass_sync.result c.pass_sync.new.top c.pass_sync.new.layer
    (short_sync S passes p i.number a l c.pass_sync.result c.pass_sync.new.top c.pass_sync.new.layer i.operation is c.pass_sync.ensures.done)

pub returns-in-One-clause-done : goal.returns-in-One-clause-done
returns-in-One-clause-done g c =
    let S = lent c.args.setting in
    let passes = c.args.passes_syncs in
    let i = c.args.instruction.now in
    let n = i.number in
    let p = c.args.position in
    let a = c.args.top.now in
    let l = c.args.layer.now in
    let r = c.in-One.reducer in
    let says = c.in-One.ensures.effect S.kinds numbered (c.requires.short numbered) in
    let w = c.in-One.number in
    let v = to_z w64 (of_z w64 w) in
    let same : w ≡ v = search rules in
    let found : Fills (value_at S.tables a.slots says.0) v l l =
    subst (λ (x : ℤ). Fills (value_at S.tables a.slots says.0) x l l) same
    (subst (λ (ss : List Slot). (x : ℤ) → x ≡ w → Fills (value_at S.tables ss says.0) x l l) c.slots.ensures.slots says.2 w refl) in
    short_value S passes p n a l c.update_one.result a c.update_one.new.layer i.operation (target.Update r) says.0 says.1
    (comes S passes p (λ kit. evaluated n (value_at S.tables a.slots says.0) (goes_on S.kinds n p (target.Update r))) a l c.update_one.result a c.update_one.new.layer
    (c.update_one.ensures.done a (value_at S.tables a.slots says.0) found))

pub returns-in-Two-clause-done : goal.returns-in-Two-clause-done
returns-in-Two-clause-done g c =
    let S = lent c.args.setting in
    let passes = c.args.passes_syncs in
    let i = c.args.instruction.now in
    let n = i.number in
    let p = c.args.position in
    let a = c.args.top.now in
    let l = c.args.layer.now in
    let says = c.in-Two.ensures.effect S.kinds numbered (c.requires.short numbered) in
    let v = c.in-Two.first in
    let w = c.in-Two.second in
    let same : v ≡ to_z w64 (of_z w64 v) = search rules in
    let other : w ≡ to_z w64 (of_z w64 w) = search rules in
    let read : values_at S.tables a.slots says.0 ≡ pure (to_z w64 (of_z w64 v) ∷ to_z w64 (of_z w64 w) ∷ []) =
    subst (λ (ss : List Slot). values_at S.tables ss says.0 ≡ pure (v ∷ w ∷ [])) c.slots.ensures.slots says.2
    ∙ ap (λ (x : ℤ). pure (x ∷ w ∷ [])) same ∙ ap (λ (x : ℤ). pure (to_z w64 (of_z w64 v) ∷ x ∷ [])) other in
    comes S passes p (λ kit. performed S kit p n i.operation) a l c.update_two.result a c.update_two.new.layer
    (short_update S passes p n a l c.update_two.result a c.update_two.new.layer i.operation c.in-Two.reducer says.0 says.1 (c.update_two.ensures.done a (values_at S.tables a.slots says.0) read))

pub returns-in-Later-clause-done : goal.returns-in-Later-clause-done
returns-in-Later-clause-done g c =
    let S = lent c.args.setting in
    let i = c.args.instruction.now in
    comes S c.args.passes_syncs c.args.position (λ kit. performed S kit c.args.position i.number i.operation) c.args.top.now c.args.layer.now c.evaluate.result c.evaluate.new.top c.evaluate.new.layer
    c.evaluate.ensures.done

pub returns-in-Some-clause-done : goal.returns-in-Some-clause-done
returns-in-Some-clause-done g c =
    let S = lent c.args.setting in
    let passes = c.args.passes_syncs in
    let i = c.args.instruction.now in
    let n = i.number in
    let p = c.args.position in
    let a = c.args.top.now in
    let l = c.args.layer.now in
    let says = c.in-Value.ensures.effect S.kinds numbered (c.requires.short numbered) in
    let w = c.in-Some.value in
    let v = to_z w64 (of_z w64 w) in
    let same : w ≡ v = search rules in
    let is : HasValue S.tables a.slots l c.in-Value.value w = subst (λ (ss : List Slot). HasValue S.tables ss l c.in-Value.value w) c.slots-in-Value.ensures.slots c.in-Some.ensures.value in
    let found : Fills (value_at S.tables a.slots says.0) v l l =
    subst (λ (x : ℤ). Fills (value_at S.tables a.slots says.0) x l l) same
    (subst (λ (ss : List Slot). (x : ℤ) → HasValue S.tables ss l c.in-Value.value x → Fills (value_at S.tables ss says.0) x l l) c.slots.ensures.slots says.2 w is) in
    short_value S passes p n a l c.put.result c.put.new.top c.put.new.layer i.operation c.in-Value.target says.0 says.1
    (c.put.ensures.done (value_at S.tables a.slots says.0) found)

pub returns-in-None-clause-done : goal.returns-in-None-clause-done
returns-in-None-clause-done g c =
    let S = lent c.args.setting in
    let i = c.args.instruction.now in
    comes S c.args.passes_syncs c.args.position (λ kit. performed S kit c.args.position i.number i.operation) c.args.top.now c.args.layer.now c.evaluate-in-None.result c.evaluate-in-None.new.top c.evaluate-in-None.new.layer
    c.evaluate-in-None.ensures.done
