use Rattle.std.proofs.Common.{rules, ◌≡◌, ◌∙◌, ℤ, true, Some, List, [], ◌∷◌, ap, to_z, of_z, w64}
use Rattle.evaluation.specs.declared.slot.Slot.{Slot}
use Rattle.evaluation.specs.declared.slot.Slot.TheVariants.{Has}
use Rattle.evaluation.specs.Slots.{slots_for}
use Rattle.positions.specs.Activations.{PlainActivation, with_slot}
use Rattle.own_statements.proofs.Placed.{one_more}
use Rattle.own_statements.proofs.filling.puts_two.Goals as goal

pub returns : goal.returns
returns c =
    let size = c.args.size in
    let v = to_z w64 (of_z w64 c.args.first) in
    let w = to_z w64 (of_z w64 c.args.second) in
    let first : v ≡ c.args.first = search rules in
    let second : w ≡ c.args.second = search rules in
    let done : c.put_number.result ≡ true = search rules in
    let put : c.put_number.new.self.slots ≡ slots_for size (v ∷ []) = ap (λ (a : PlainActivation). a.slots) (c.put_number.ensures.put done) in
    let bound : c.bind.new.self.slots ≡ with_slot (Some 1) (Has w) c.put_number.new.self.slots = ap (λ (a : PlainActivation). a.slots) c.bind.ensures.bound in
    record {
      put = λ _. one_more size v w c.bind.new.self.slots (bound ∙ ap (λ (ss : List Slot). with_slot (Some 1) (Has w) ss) put)
          ∙ ap (λ (x : ℤ). slots_for size (x ∷ w ∷ [])) first ∙ ap (λ (x : ℤ). slots_for size (c.args.first ∷ x ∷ [])) second;
    }
