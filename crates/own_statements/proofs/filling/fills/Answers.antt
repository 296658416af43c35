use Rattle.std.proofs.Common.{rules, ◌≡◌, ◌∙◌, ℤ, List, [], ◌∷◌, map, ap, subst, to_z, of_z, w64}
use Rattle.linked_program.specs.CodeView.{expression as plain}
use Rattle.evaluation.specs.declared.slot.Slot.{Slot}
use Rattle.evaluation.specs.Slots.{slots_for}
use Rattle.evaluation.specs.Values.{pure, values_at}
use Rattle.positions.specs.Activations.{PlainActivation}
use Rattle.own_statements.proofs.Placed.{is_put}
use Rattle.own_statements.proofs.filling.fills.Goals as goal

pub returns-then-put_number-clause-filled : goal.returns-then-put_number-clause-filled
returns-then-put_number-clause-filled g c done =
    let all = c.args.tables.now.tables in
    let es = map plain c.args.arguments.now in
    let u = c.in-Some.number in
    let v = to_z w64 (of_z w64 u) in
    let same : v ≡ u = search rules in
    let put : c.put_number.new.self.slots ≡ slots_for c.args.size (v ∷ []) = ap (λ (a : PlainActivation). a.slots) (c.put_number.ensures.put c.if-put_number.true) in
    is_put all c.args.top.now.slots c.args.size (u ∷ []) es c.put_number.new.self.slots c.args.layer.now
    (subst (λ (ss : List Slot). values_at all ss es ≡ pure (u ∷ [])) c.slots.ensures.slots (c.in-Some.ensures.value all))
    (put ∙ ap (λ (x : ℤ). slots_for c.args.size (x ∷ [])) same)

pub returns-then-puts_two-clause-filled : goal.returns-then-puts_two-clause-filled
returns-then-puts_two-clause-filled g c done =
    let all = c.args.tables.now.tables in
    let es = map plain c.args.arguments.now in
    let u = c.in-Some-two_numbers.first in
    let w = c.in-Some-two_numbers.second in
    let first : to_z w64 (of_z w64 u) ≡ u = search rules in
    let second : to_z w64 (of_z w64 w) ≡ w = search rules in
    is_put all c.args.top.now.slots c.args.size (u ∷ w ∷ []) es c.puts_two.new.child.slots c.args.layer.now
    (subst (λ (ss : List Slot). values_at all ss es ≡ pure (u ∷ w ∷ [])) c.slots-2.ensures.slots (c.in-Some-two_numbers.ensures.values all))
    (c.puts_two.ensures.put c.if-puts_two.true ∙ ap (λ (x : ℤ). slots_for c.args.size (x ∷ to_z w64 (of_z w64 w) ∷ [])) first
    ∙ ap (λ (x : ℤ). slots_for c.args.size (u ∷ x ∷ [])) second)
