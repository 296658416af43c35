use Rattle.std.proofs.Common.{rules, ◌≡◌, ℤ, inl, sym, subst, to_z, of_z, w64}
use Rattle.linked_program.specs.declared.code.Target.{Target}
use Rattle.linked_program.specs.declared.code.Target.TheVariants as target
use Rattle.linked_program.specs.CodeView.{TakesOne}
use Rattle.positions.specs.Activations.{PlainActivation}
use Rattle.positions.specs.Advance.{evaluated}
use Rattle.activations.specs.Given.{lent}
use Rattle.own_statements.specs.declared.statements.Did.TheVariants.{Next}
use Rattle.own_statements.specs.Effects.{Comes, combining_one, goes_on}
use Rattle.own_statements.specs.Fills.{Fills}
use Rattle.own_statements.proofs.Shorts.{binds_found, comes}
use Rattle.own_statements.proofs.statements.put.Goals as goal

pub update_one-requires-clause-takes : goal.update_one-requires-clause-takes
update_one-requires-clause-takes g c κs within = subst (λ (t : Target). TakesOne c.args.setting.program.now.kinds t) c.in-Update.is c.requires.takes

pub returns-in-Slot-clause-done : goal.returns-in-Slot-clause-done
returns-in-Slot-clause-done g c o h =
    let S = lent c.args.setting in
    let passes = c.args.here.passes_syncs in
    let n = c.args.here.statement in
    let p = c.args.here.position in
    let a = c.args.top.now in
    let l = c.args.layer.now in
    let w = c.args.value in
    let v = to_z w64 (of_z w64 w) in
    let same : w ≡ v = search rules in
    let found : Fills o v l l = subst (λ (x : ℤ). Fills o x l l) same h in
    subst (λ (t : Target). Comes S passes p (λ kit. evaluated n o (goes_on S.kinds n p t)) a l Next c.bind.new.self l) (sym c.in-Slot.is)
    (subst (λ (b : PlainActivation). Comes S passes p (λ kit. evaluated n o (goes_on S.kinds n p (target.Slot c.in-Slot.name))) a l Next b l) (sym c.bind.ensures.bound)
    (inl (binds_found passes p n a l o v found c.in-Slot.name)))

pub returns-in-Blocks-clause-done : goal.returns-in-Blocks-clause-done
returns-in-Blocks-clause-done g c o h =
    let S = lent c.args.setting in
    let n = c.args.here.statement in
    let p = c.args.here.position in
    let l = c.args.layer.now in
    let w = c.args.value in
    let same : w ≡ to_z w64 (of_z w64 w) = search rules in
    let found : Fills o (to_z w64 (of_z w64 w)) l l = subst (λ (x : ℤ). Fills o x l l) same h in
    subst (λ (t : Target). Comes S c.args.here.passes_syncs p (λ kit. evaluated n o (goes_on S.kinds n p t)) c.args.top.now l c.choose_by.result c.choose_by.new.top l) (sym c.in-Blocks.is)
    (c.choose_by.ensures.done l o found)

pub returns-in-Update-clause-done : goal.returns-in-Update-clause-done
returns-in-Update-clause-done g c o h =
    let S = lent c.args.setting in
    let passes = c.args.here.passes_syncs in
    let n = c.args.here.statement in
    let p = c.args.here.position in
    let a = c.args.top.now in
    let l = c.args.layer.now in
    let w = c.args.value in
    let same : w ≡ to_z w64 (of_z w64 w) = search rules in
    let found : Fills o (to_z w64 (of_z w64 w)) l l = subst (λ (x : ℤ). Fills o x l l) same h in
    subst (λ (t : Target). Comes S passes p (λ kit. evaluated n o (goes_on S.kinds n p t)) a l c.update_one.result a c.update_one.new.layer) (sym c.in-Update.is)
    (comes S passes p (λ kit. evaluated n o (goes_on S.kinds n p (target.Update c.in-Update.reducer))) a l c.update_one.result a c.update_one.new.layer (c.update_one.ensures.done a o found))
