use Rattle.std.proofs.Common.{◌≡◌, All, subst, sym}
use Rattle.positions.specs.Layers.{PlainLayer}
use Rattle.positions.specs.Strands.{PlainStrand}
use Rattle.layers.proofs.Lowest.{all_reverse}
use Rattle.strand_moves.proofs.ending.close_upper.Goals as goal

pub close_all-requires-clause-kinds : goal.close_all-requires-clause-kinds
close_all-requires-clause-kinds g c κs within =
    all_reverse (λ (l : PlainLayer). l.kinds ≡ c.machine.inside.layer.kinds) c.machine.inside.lower.items
    (subst (λ (s : PlainStrand). All (λ (l : PlainLayer). l.kinds ≡ s.layer.kinds) s.lower) (sym c.machine.view_is) c.requires.kinds)
