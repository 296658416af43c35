use Rattle.std.proofs.Common.{rules, ◌≡◌, [], ◌∷◌, ◌++◌, ◌∙◌, ap, get_or, map, pos, sym}
use Rattle.evaluation.specs.declared.slot.Slot.TheVariants.{Has}
use Rattle.evaluation.specs.Slots.{padded, slots_for}
use Rattle.small_steps.proofs.Padding.{padded_value, padded_values}
use Rattle.small_steps.proofs.remembering.slots_with.Goals as goal

pub loop-value-init : goal.loop-value-init
loop-value-init c = ap (λ xs. padded c.args.size (xs ++ map Has c.args.values.now)) (sym (c.reserve.ensures.items ∙ c.requires.empty))

pub loop-value-preserved : goal.loop-value-preserved
loop-value-preserved c =
    let more : c.push.new.self.items ≡ c.loop-value.slots.items ++ Has (get_or c.args.values.now c.loop-value.value-index (pos 0)) ∷ [] = search rules in
    padded_value c.args.size c.loop-value.slots.items c.args.values.now c.loop-value.value-index (slots_for c.args.size c.args.values.now) c.loop-value.invariant
    (pos 0) c.push.new.self.items c.loop-value-test.true more

pub returns : goal.returns
returns c = record {
  slots = c.in_ok-fill_up.ensures.padded
      ∙ sym (padded_values c.args.size c.loop-value.slots.items c.args.values.now c.loop-value.value-index (slots_for c.args.size c.args.values.now) c.loop-value.invariant c.loop-value-test.false);
}
