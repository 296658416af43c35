use Rattle.std.proofs.Common.{◌≡◌, true, false, sym, ap, subst, ◌∙◌}
use Rattle.numbered_runs.specs.Named.{run_step}
use Rattle.stepped_runs.specs.Runs.{are_workers}
use Rattle.worker_core.specs.Cores.{PlainCore}
use Rattle.worker_core.specs.Keeps.{StaysRun}
use Rattle.worker_core.proofs.Keeping.{keeps_layers, stays_kept, stays_taken, stays_refused}
use Rattle.worker_core.proofs.run.Core.take.Goals as goal

pub take-requires-clause-layered : goal.take-requires-clause-layered
take-requires-clause-layered g c κs within =
    let going : c.self.inside.failed ≡ false = ap (λ (core : PlainCore). core.failed) c.self.view_is ∙ c.requires.going in
    let kept = stays_kept c.self.inside.program.now c.self.inside.tables.now c.self.inside.records.now c.self.inside.failed c.self.inside.workers c.self.inside.strands c.self.invariant.1 going in
    keeps_layers c.self.inside.program.now c.self.inside.tables.now c.self.inside.records.now c.self.inside.strands kept.0

pub invariant_of-self : goal.invariant_of-self
invariant_of-self g c =
    let going : c.self.inside.failed ≡ false = ap (λ (core : PlainCore). core.failed) c.self.view_is ∙ c.requires.going in
    let kept = stays_kept c.self.inside.program.now c.self.inside.tables.now c.self.inside.records.now c.self.inside.failed c.self.inside.workers c.self.inside.strands c.self.invariant.1 going in
    let by : are_workers c.self.inside.workers (run_step c.args.step.now) ≡ true = ap (λ (core : PlainCore). are_workers core.workers (run_step c.args.step.now)) c.self.view_is ∙ c.requires.workers in (
      c.take.ensures.fit,
      subst (λ failed. StaysRun failed c.self.inside.program.now c.self.inside.tables.now c.self.inside.records.now c.self.inside.workers c.take.new.self) (sym going)
          (stays_taken c.self.inside.program.now c.self.inside.tables.now c.self.inside.records.now c.self.inside.workers c.self.inside.strands c.take.new.self kept.0 kept.1 c.args.step.now by c.in-Ok.ensures.taken),
    )

pub invariant_of-self-in-Err : goal.invariant_of-self-in-Err
invariant_of-self-in-Err g c =
    let going : c.self.inside.failed ≡ false = ap (λ (core : PlainCore). core.failed) c.self.view_is ∙ c.requires.going in
    let kept = stays_kept c.self.inside.program.now c.self.inside.tables.now c.self.inside.records.now c.self.inside.failed c.self.inside.workers c.self.inside.strands c.self.invariant.1 going in (
      c.take.ensures.fit,
      stays_refused c.self.inside.program.now c.self.inside.tables.now c.self.inside.records.now c.self.inside.workers c.self.inside.strands c.take.new.self kept.0 kept.1 c.args.step.now c.in-Err.refusal c.is_failure-self-inside.result c.is_failure-self-inside.ensures.failure c.in-Err.ensures.stands,
    )
