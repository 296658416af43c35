use Rattle.std.proofs.Common.{rules, ◌≡◌, ◌∙◌, ℤ, [], ◌∷◌, map, sym, ap, to_z, of_z, w64}
use Rattle.linked_program.specs.CodeView.{expression as plain}
use Rattle.evaluation.specs.Slots.{slots_for}
use Rattle.positions.specs.Activations.{PlainActivation}
use Rattle.own_statements.proofs.Placed.{is_entered}
use Rattle.own_statements.proofs.filling.fills_turn.Goals as goal

pub returns-then-put_number-clause-filled : goal.returns-then-put_number-clause-filled
returns-then-put_number-clause-filled g c done =
    let v = to_z w64 (of_z w64 c.args.number) in
    let same : c.args.number ≡ v = search rules in
    let counted = c.requires.counted c.if-iterations.true in
    let put : c.put_number.new.self.slots ≡ slots_for c.args.iterations.size (v ∷ []) = ap (λ (a : PlainActivation). a.slots) (c.put_number.ensures.put c.if-put_number.true) in
    is_entered c.args.iterations.tables.now.tables c.args.top.now.slots c.args.iterations.size c.args.iterations.variable c.args.number (map plain c.args.iterations.arguments.now) c.put_number.new.self.slots c.args.layer.now counted.0 counted.1
    (put ∙ ap (λ (u : ℤ). slots_for c.args.iterations.size (u ∷ [])) (sym same))
