use Rattle.std.proofs.Common.{All, sym, subst}
use Rattle.monoid_laws.specs.Kinds.{IsMonoid}
use Rattle.positions.specs.Strands.{PlainStrand}
use Rattle.loop_answers.proofs.taking.take_answers.Goals as goal

pub take_over-requires-clause-monoids : goal.take_over-requires-clause-monoids
take_over-requires-clause-monoids g c κs within = subst (λ (s : PlainStrand). All IsMonoid s.layer.kinds) (sym c.machine.view_is) c.requires.monoids
