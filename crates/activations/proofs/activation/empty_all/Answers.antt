use Rattle.std.proofs.Common.{rules, ◌∙◌, ◌<◌, List, length, slice_set, ap}
use Rattle.evaluation.specs.declared.slot.Slot.{Slot}
use Rattle.evaluation.specs.declared.slot.Slot.TheVariants.{Unset}
use Rattle.activations.proofs.Alone.{emptied_to}
use Rattle.activations.proofs.activation.empty_all.Goals as goal

pub loop-i-preserved : goal.loop-i-preserved
loop-i-preserved c =
    let less : c.loop-i.i < length c.args.slots.now = search rules in
    ap (λ (s : Slot). slice_set c.loop-i.slots c.loop-i.i s) c.empty.ensures.emptied
    ∙ ap (λ (ys : List Slot). slice_set ys c.loop-i.i Unset) c.loop-i.invariant ∙ emptied_to c.args.slots.now c.loop-i.i less
