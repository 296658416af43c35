use Rattle.std.proofs.Common.{rules, ◌≡◌, false, subst}
use Rattle.positions.specs.declared.phase.Phase.TheVariants.{Entering}
use Rattle.positions.specs.Strands.{PlainStrand}
use Rattle.positions.specs.Advance.{answer_for, pushed, recalled}
use Rattle.activations.specs.Given.{lent}
use Rattle.small_steps.specs.Steps.{GivesNone, HoldsBy, IsValued}
use Rattle.small_steps.proofs.Refusals.{child_back}
use Rattle.small_steps.proofs.machine.Machine.call_memo.Goals as goal

pub returns-in-Ok-clause-recalled : goal.returns-in-Ok-clause-recalled
returns-in-Ok-clause-recalled g c =
    let setting = lent c.args.setting in
    subst (λ (q : PlainStrand). HoldsBy (g.K.KitSource.lacks c.args.kits.now) (GivesNone g.K.KitSource.gives c.args.kits.now) (λ kit. c.recall.new.self ≡ recalled setting kit (answer_for setting q) q))
    c.in_ok-push_called.ensures.pushed c.in-Ok.ensures.recalled

pub returns-in-Err-clause-refused : goal.returns-in-Err-clause-refused
returns-in-Err-clause-refused g c =
    let s : PlainStrand = c.args.self.now in
    let spawned : c.waiting-before.result.spawned ≡ s.top.spawned = search rules in
    let into : c.waiting-before.result.into ≡ s.top.into = search rules in
    let work : c.waiting-before.result.work ≡ s.top.work = search rules in
    let valued : IsValued (pushed c.args.child false c.args.entrance.into c.args.entrance.work Entering s) c.recall.new.self =
    subst (λ (q : PlainStrand). IsValued q c.recall.new.self) c.in_ok-push_called.ensures.pushed c.in-Err.ensures.refused in
    child_back s c.recall.new.self c.take_back.new.self c.args.child c.args.entrance.into c.args.entrance.work c.waiting-before.result.spawned c.waiting-before.result.into c.waiting-before.result.work
    c.requires.running spawned into work valued c.take_back.ensures.taken
