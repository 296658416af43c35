use Rattle.monoid_laws.specs.Kinds.{meaning, element_of}
use Rattle.view_pool.proofs.Kept.{IsWorth-combined}
use Rattle.view_pool.proofs.plain_view.PlainViewView.update.Goals as goal

pub invariant_of-self : goal.invariant_of-self
invariant_of-self c =
    IsWorth-combined c.add_in_pieces.result c.self.inside.kind (meaning c.self.inside.value) (meaning c.add_in_pieces.new.value) (element_of c.self.inside.kind c.args.numbers.now)
    c.add_in_pieces.ensures.combined c.add_in_pieces.ensures.element c.add_in_pieces.ensures.refused c.self.invariant
