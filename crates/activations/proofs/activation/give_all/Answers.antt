use Rattle.std.proofs.Common.{rules, ◌≡◌, ◌<◌, length, slice_index_or, to_z, of_z, w64, subst}
use Rattle.positions.specs.Moves.{settled_slot}
use Rattle.activations.proofs.Slots.{at_seam}
use Rattle.activations.proofs.activation.give_all.Goals as goal

pub loop-i-preserved : goal.loop-i-preserved
loop-i-preserved c =
    let less : c.loop-i.i < length c.args.slots.now.items = search rules in
    rw (c.loop-i.invariant, c.settled_slot.ensures.settled)
    (at_seam (settled_slot c.args.child (to_z w64 (of_z w64 c.args.value))) c.args.slots.now.items c.loop-i.i c.index.result.now less
    (subst (λ ys. c.index.result.now ≡ slice_index_or ys c.loop-i.i c.index.result.now) c.loop-i.invariant c.index.ensures))
