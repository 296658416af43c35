use Rattle.std.proofs.Common.{◌≡◌, ◌∷◌, sym, subst, ◌∙◌, ap}
use Rattle.positions.specs.Strands.{PlainStrand}
use Rattle.positions.specs.Moves.{detached}
use Rattle.positions.specs.Simulation.{IsDetached}
use Rattle.position_theory.proofs.Moves.{detached_is}
use Rattle.frames.proofs.strand.Strand.detach.Goals as goal

pub returns-clause-definition : goal.returns-clause-definition
returns-clause-definition g c setting =
    let s = c.args.self.now in
    let task = c.take_out.result in
    let place : task.place ≡ s.path = c.take_out.ensures.place ∙ ap (λ (z : PlainStrand). z.path) c.self.view_is in
    let below : s.below ≡ task.top ∷ task.below = sym (ap (λ (z : PlainStrand). z.below) c.self.view_is) ∙ c.take_out.ensures.task in
    subst (λ (z : PlainStrand). IsDetached setting s z task) (sym (c.take_out.ensures.child ∙ ap detached c.self.view_is)) (detached_is setting s task place below)
