use Rattle.std.proofs.Common.{ap, ◌∙◌, rules, ◌≡◌}
use Rattle.right_strands.specs.Rightness.{PlainRight}
use Rattle.right_strands.proofs.Moves.{inlined_kept}
use Rattle.right_strands.proofs.Boxes.{held_there}
use Rattle.positions.specs.declared.phase.Phase.TheVariants.{AtSpawn}
use Rattle.right_strands.proofs.strand.RightStrand.inline.Goals as goal

pub invariant_of-self : goal.invariant_of-self
invariant_of-self g c =
    let d = c.deref_mut.result.now in
    let start : d.start ≡ c.self.inside.body.value.start = search rules in
    let failed : d.failed ≡ c.self.inside.body.value.failed = search rules in
    let strand : d.strand ≡ c.self.inside.body.value.strand = search rules in
    let held = held_there g.J.Run.setting c.self.inside.body.value.start d.start c.self.inside.body.value.failed d.failed c.self.inside.body.value.strand d.strand start failed strand c.self.invariant in
    let at_spawn : d.strand.phase ≡ AtSpawn = search rules in
    inlined_kept g.J.Run.setting d.start d.failed d.strand c.inline.new.self at_spawn c.inline.ensures.called c.inline.ensures.definition held
