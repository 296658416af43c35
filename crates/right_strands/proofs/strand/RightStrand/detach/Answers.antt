use Rattle.std.proofs.Common.{rules, ◌≡◌, false, ap, subst, ◌∙◌}
use Rattle.positions.specs.declared.phase.Phase.TheVariants.{AtSpawn}
use Rattle.positions.specs.declared.start.Start.{Start}
use Rattle.right_strands.specs.Rightness.{PlainRight, IsRightTask, WasDetached}
use Rattle.right_strands.proofs.Boxes.{held_there}
use Rattle.right_strands.proofs.Moves.{detached_kept, task_kept, was_detached}
use Rattle.right_strands.proofs.strand.RightStrand.detach.Goals as goal

pub invariant_of-self : goal.invariant_of-self
invariant_of-self g c =
    let d = c.deref_mut.result.now in
    let start : d.start ≡ c.self.inside.body.value.start = search rules in
    let failed : d.failed ≡ c.self.inside.body.value.failed = search rules in
    let strand : d.strand ≡ c.self.inside.body.value.strand = search rules in
    let held = held_there g.J.Run.setting c.self.inside.body.value.start d.start c.self.inside.body.value.failed d.failed c.self.inside.body.value.strand d.strand start failed strand c.self.invariant in
    let at_spawn : d.strand.phase ≡ AtSpawn = search rules in
    detached_kept g.J.Run.setting d.start d.failed d.strand c.detach-task.new.self c.detach-task.result at_spawn c.detach-task.ensures.child c.detach-task.ensures.definition held

pub invariant_of-result : goal.invariant_of-result
invariant_of-result g c =
    let d = c.deref_mut.result.now in
    let start : d.start ≡ c.self.inside.body.value.start = search rules in
    let failed : d.failed ≡ c.self.inside.body.value.failed = search rules in
    let strand : d.strand ≡ c.self.inside.body.value.strand = search rules in
    let held = held_there g.J.Run.setting c.self.inside.body.value.start d.start c.self.inside.body.value.failed d.failed c.self.inside.body.value.strand d.strand start failed strand c.self.invariant in
    let at_spawn : d.strand.phase ≡ AtSpawn = search rules in
    let going : d.failed ≡ false = search rules in
    let since : d.start ≡ c.deref.result.now.start = search rules in
    subst (λ (st : Start). IsRightTask g.J.Run.setting (record { task = c.detach-task.result; since = st })) since
    (task_kept g.J.Run.setting d.start d.failed d.strand c.detach-task.new.self c.detach-task.result going at_spawn c.detach-task.ensures.place c.detach-task.ensures.child c.detach-task.ensures.definition held)

pub returns-clause-was : goal.returns-clause-was
returns-clause-was g c =
    let d = c.deref_mut.result.now in
    let start : d.start ≡ c.self.inside.body.value.start = search rules in
    let failed : d.failed ≡ c.self.inside.body.value.failed = search rules in
    let strand : d.strand ≡ c.self.inside.body.value.strand = search rules in
    let held = held_there g.J.Run.setting c.self.inside.body.value.start d.start c.self.inside.body.value.failed d.failed c.self.inside.body.value.strand d.strand start failed strand c.self.invariant in
    let at_spawn : d.strand.phase ≡ AtSpawn = search rules in
    let going : d.failed ≡ false = search rules in
    let since : d.start ≡ c.deref.result.now.start = search rules in
    subst (λ (st : Start). WasDetached g.J.Run.setting (record { task = c.detach-task.result; since = st }) c.detach-task.new.self) since
    (was_detached g.J.Run.setting d.start d.failed d.strand c.detach-task.new.self c.detach-task.result going at_spawn c.detach-task.ensures.task c.detach-task.ensures.child held)

pub returns-clause-since : goal.returns-clause-since
returns-clause-since g c =
    let here : c.deref.result.now.start ≡ c.self.inside.body.value.start = search rules in
    here ∙ c.self.invariant.begins (ap (λ (s : PlainRight). s.failed) c.self.view_is ∙ c.requires.going) ∙ ap (λ (s : PlainRight). s.strand.start) c.self.view_is
