use Rattle.std.proofs.Common.{rules, ◌≡◌, sym, subst}
use Rattle.positions.specs.Strands.{PlainStrand}
use Rattle.strand_moves.specs.Joins.{IsDone}
use Rattle.frames.proofs.Whole.{joined_or, over_or}
use Rattle.frames.proofs.strand.Strand.join_there.Goals as goal

pub invariant_of-self : goal.invariant_of-self
invariant_of-self g c =
    let done : IsDone c.self.inside.machine.phase = subst (λ (s : PlainStrand). IsDone s.phase) (sym c.self.view_is) c.requires.done in
    let same : c.self.inside.machine.layer.kinds ≡ c.right.inside.machine.layer.kinds = search rules in
    joined_or c.self.inside.machine c.right.inside.machine c.join_there.new.machine c.join_there.result done c.join_there.ensures.joined c.join_there.ensures.left_kept c.join_there.ensures.made same c.self.invariant c.right.invariant

pub invariant_of-right : goal.invariant_of-right
invariant_of-right g c =
    over_or c.right.inside.machine c.join_there.new.right c.join_there.result c.join_there.ensures.bare c.join_there.ensures.uncounted c.join_there.ensures.right_kept c.right.invariant
