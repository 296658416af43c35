use Rattle.std.proofs.Common.{◌∙◌, ℤ, List, [], ◌∷◌, length, slice_set, ap, to_z, of_z, w64}
use Rattle.std.proofs.lemmas.Int.{to_z-of_z}
use Rattle.evaluation.specs.declared.slot.Slot.{Slot}
use Rattle.evaluation.specs.declared.slot.Slot.TheVariants.{Has}
use Rattle.evaluation.specs.Slots.{slots_for}
use Rattle.activations.proofs.Alone.{put_alone}
use Rattle.activations.proofs.activation.put_alone.Goals as goal

pub returns : goal.returns
returns c =
    let v = to_z w64 (of_z w64 c.args.number) in
    let xs = c.args.slots.now in
    record {
      put = ap (λ (ys : List Slot). slice_set ys 0 (Has v)) c.empty_all.ensures.emptied ∙ put_alone xs v c.requires.some
          ∙ ap (λ (u : ℤ). slots_for (length xs) (u ∷ [])) (to_z-of_z w64 c.args.number c.ranges.number);
    }
