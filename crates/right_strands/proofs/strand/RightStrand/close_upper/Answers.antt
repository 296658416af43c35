use Rattle.std.proofs.Common.{ap, rules, ◌≡◌}
use Rattle.right_strands.specs.Rightness.{PlainRight}
use Rattle.right_strands.proofs.Cuts.{alone_kept}
use Rattle.right_strands.proofs.Boxes.{held_there}
use Rattle.right_strands.proofs.strand.RightStrand.close_upper.Goals as goal

pub invariant_of-self : goal.invariant_of-self
invariant_of-self g c =
    let d = c.deref_mut.result.now in
    let start : d.start ≡ c.self.inside.body.value.start = search rules in
    let failed : d.failed ≡ c.self.inside.body.value.failed = search rules in
    let strand : d.strand ≡ c.self.inside.body.value.strand = search rules in
    let held = held_there g.J.Run.setting c.self.inside.body.value.start d.start c.self.inside.body.value.failed d.failed c.self.inside.body.value.strand d.strand start failed strand c.self.invariant in
    let same : d.strand ≡ c.args.self.now.strand = search rules in
    alone_kept g.J.Run.setting d.start d.failed c.args.self.now.strand d.strand c.close_upper.new.self same c.requires.faulted c.close_upper.ensures.alone c.close_upper.ensures.kinds held
