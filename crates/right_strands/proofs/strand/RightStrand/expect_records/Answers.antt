use Rattle.std.proofs.Common.{◌≡◌, ◌∙◌, rules}
use Rattle.right_strands.proofs.Boxes.{held_there}
use Rattle.right_strands.proofs.strand.RightStrand.expect_records.Goals as goal

pub invariant_of-self : goal.invariant_of-self
invariant_of-self g c =
    let d = c.deref_mut.result.now in
    let start : d.start ≡ c.self.inside.body.value.start = search rules in
    let failed : d.failed ≡ c.self.inside.body.value.failed = search rules in
    let strand : d.strand ≡ c.self.inside.body.value.strand = search rules in
    held_there g.J.Run.setting c.self.inside.body.value.start d.start c.self.inside.body.value.failed d.failed c.self.inside.body.value.strand c.expect_records.new.self start failed (c.expect_records.ensures.same ∙ strand) c.self.invariant
