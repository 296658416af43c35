use Rattle.std.proofs.Common.{sym, subst, ◌∙◌, ap}
use Rattle.positions.specs.Strands.{PlainStrand}
use Rattle.positions.specs.Moves.{inlined}
use Rattle.positions.specs.Simulation.{IsInlined}
use Rattle.position_theory.proofs.Moves.{inlined_is}
use Rattle.frames.proofs.strand.Strand.inline.Goals as goal

pub returns-clause-definition : goal.returns-clause-definition
returns-clause-definition g c setting =
    subst (λ (z : PlainStrand). IsInlined setting c.args.self.now z) (sym (c.call_child.ensures.called ∙ ap inlined c.self.view_is)) (inlined_is setting c.args.self.now)
