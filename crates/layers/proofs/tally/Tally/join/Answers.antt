use Rattle.std.proofs.Common.{◌≡◌, ◌++◌, ◌∙◌, ap, subst, sym}
use Rattle.record_theory.specs.Named.{HaveValues}
use Rattle.positions.specs.Tallies.{PlainTally}
use Rattle.list_pieces.specs.Pieces.{items_in}
use Rattle.layers.proofs.Touches.{both_values}
use Rattle.layers.proofs.tally.Tally.join.Goals as goal

pub returns-clause-values : goal.returns-clause-values
returns-clause-values g c = λ kinds left right.
    let whole : items_in c.append.new.self ≡ items_in c.self.inside.made ++ items_in c.right.inside.made = c.append.ensures.items ∙ ap (λ rs. rs ++ items_in c.right.inside.made) c.make_room_for.ensures.items in
    both_values kinds (items_in c.self.inside.made) (items_in c.right.inside.made) (items_in c.append.new.self) whole
    (subst (λ (t : PlainTally). HaveValues kinds t.made) (sym c.self.view_is) left) (subst (λ (t : PlainTally). HaveValues kinds t.made) (sym c.right.view_is) right)

pub returns-in_err-multiply-clause-values : goal.returns-in_err-multiply-clause-values
returns-in_err-multiply-clause-values g c = λ kinds left right.
    subst (HaveValues kinds) (sym c.make_room_for.ensures.items) (subst (λ (t : PlainTally). HaveValues kinds t.made) (sym c.self.view_is) left)
