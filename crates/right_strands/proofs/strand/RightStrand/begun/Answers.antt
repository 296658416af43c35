use Rattle.std.proofs.Common.{refl, false, ◌∙◌}
use Rattle.right_strands.proofs.Boxes.{held_there}
use Rattle.right_strands.proofs.Moves.{stolen_kept}
use Rattle.right_strands.proofs.strand.RightStrand.begun.Goals as goal

pub invariant_of-result : goal.invariant_of-result
invariant_of-result g c =
    let new = c.begin_stolen.new.self in
    held_there g.J.Run.setting c.behind-start.result new.start false new.failed new.strand new.strand c.in-Ok.ensures.start c.in-Ok.ensures.going refl
    (stolen_kept g.J.Run.setting c.scene.inside.program.now c.scene.inside.tables.now c.scene.inside.records.now c.scene.invariant (record { task = c.task.inside.task; since = c.task.inside.since }) new.strand c.behind-start.result c.args.kit c.requires.kit c.in-Ok.ensures.stolen c.in-Ok.ensures.definition (λ front child e. c.behind-start.ensures.behind front child (c.place.ensures.place ∙ e)) c.task.invariant)
