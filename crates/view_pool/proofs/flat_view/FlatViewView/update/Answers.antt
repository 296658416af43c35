use Rattle.monoid_laws.specs.Kinds.{meaning, element_of}
use Rattle.view_pool.proofs.Kept.{IsWorth-combined}
use Rattle.view_pool.proofs.flat_view.FlatViewView.update.Goals as goal

pub invariant_of-self : goal.invariant_of-self
invariant_of-self c =
    IsWorth-combined c.add_element.result c.self.inside.kind (meaning c.self.inside.value) (meaning c.add_element.new.value) (element_of c.self.inside.kind c.args.numbers.now)
    c.add_element.ensures.combined c.add_element.ensures.element c.add_element.ensures.refused c.self.invariant
