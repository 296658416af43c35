use Rattle.std.proofs.Common.{sym, ap, ◌∙◌, subst, false}
use Rattle.positions.specs.declared.start.Start.TheVariants.{Root}
use Rattle.positions.specs.Simulation.{IsFirst}
use Rattle.positions.specs.Strands.{PlainStrand}
use Rattle.right_strands.proofs.Boxes.{held_there}
use Rattle.right_strands.proofs.Steps.{first_kept, first_named}
use Rattle.right_strands.proofs.strand.RightStrand.first.Goals as goal

pub invariant_of-result : goal.invariant_of-result
invariant_of-result g c =
    let b = c.in-Ok-boxed.body.value in
    held_there g.J.Run.setting Root b.start false b.failed c.in-Ok.strand b.strand c.in-Ok-boxed.ensures.start c.in-Ok-boxed.ensures.going c.in-Ok-boxed.ensures.strand
    (first_kept g.J.Run.setting c.scene.inside.program.now c.scene.inside.tables.now c.scene.inside.records.now c.scene.invariant c.in-Ok.strand c.args.kit c.requires.kit c.in-Ok.ensures.kinds c.in-Ok.ensures.first c.in-Ok.ensures.beginning)

pub returns-in-Ok-boxed-clause-first : goal.returns-in-Ok-boxed-clause-first
returns-in-Ok-boxed-clause-first g c =
    subst (λ (s : PlainStrand). IsFirst g.J.Run.setting s) (sym c.in-Ok-boxed.ensures.strand) (first_named g.J.Run.setting c.scene.inside.program.now c.scene.inside.tables.now c.scene.inside.records.now c.scene.invariant c.in-Ok.strand c.in-Ok.ensures.beginning)

pub returns-in-Ok-boxed-clause-begins : goal.returns-in-Ok-boxed-clause-begins
returns-in-Ok-boxed-clause-begins g c = ap (λ (s : PlainStrand). s.start) (c.in-Ok-boxed.ensures.strand ∙ c.in-Ok.ensures.first)
