use Rattle.std.proofs.Common.{sym, ap, subst, ◌∙◌}
use Rattle.positions.specs.Strands.{PlainStrand}
use Rattle.positions.specs.Moves.{lowest_alone}
use Rattle.positions.specs.Simulation.{IsAlone}
use Rattle.position_theory.proofs.Moves.{alone_is}
use Rattle.frames.proofs.strand.Strand.close_upper.Goals as goal

pub returns-clause-definition : goal.returns-clause-definition
returns-clause-definition g c setting =
    subst (λ (z : PlainStrand). IsAlone setting c.args.self.now z) (sym (c.close_upper.ensures.alone ∙ ap lowest_alone c.self.view_is)) (alone_is setting c.args.self.now)
