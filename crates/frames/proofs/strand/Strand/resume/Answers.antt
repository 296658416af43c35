use Rattle.std.proofs.Common.{sym, subst, ◌∙◌, ap}
use Rattle.positions.specs.Strands.{PlainStrand}
use Rattle.positions.specs.Moves.{resumed}
use Rattle.positions.specs.Simulation.{IsResumed}
use Rattle.position_theory.proofs.Moves.{resumed_is}
use Rattle.frames.proofs.strand.Strand.resume.Goals as goal

pub returns-clause-definition : goal.returns-clause-definition
returns-clause-definition g c setting =
    subst (λ (z : PlainStrand). IsResumed setting c.args.task c.args.self.now z) (sym (c.go_on_with.ensures.resumed ∙ ap (resumed c.args.task) c.self.view_is)) (resumed_is setting c.args.task c.args.self.now)
