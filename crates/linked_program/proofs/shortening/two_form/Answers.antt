use Rattle.std.proofs.Common.{◌∷◌, [], sym, subst}
use Rattle.linked_program.specs.declared.code.Expression.{Expression}
use Rattle.linked_program.specs.Linked.{updates}
use Rattle.linked_program.specs.CodeView.{expression, IsFormOf}
use Rattle.linked_program.proofs.shortening.two_form.Goals as goal

pub returns-in-Slot : goal.returns-in-Slot
returns-in-Slot c = record {
  form = λ kinds inner takes. subst (λ (x : Expression). IsFormOf kinds inner c.beside_slot.result (updates c.args.reducer (expression x ∷ expression c.args.second.now ∷ []))) (sym c.in-Slot.is) (c.beside_slot.ensures.form kinds inner takes);
}
