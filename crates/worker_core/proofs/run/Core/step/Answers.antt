use Rattle.std.proofs.Common.{subst}
use Rattle.numbered_runs.specs.Named.{run_step}
use Rattle.worker_core.specs.Cores.{PlainCore, setting_in}
use Rattle.worker_core.specs.Keeps.{KeepsRun}
use Rattle.worker_core.proofs.Keeping.{stays_kept}
use Rattle.worker_core.proofs.Steps.{step_is_taken, step_is_refused}
use Rattle.worker_core.proofs.Unrecorded.{step_passes}
use Rattle.worker_core.proofs.run.Core.step.Goals as goal

pub returns-clause-step : goal.returns-clause-step
returns-clause-step g c =
    let kept = stays_kept c.self.inside.program.now c.self.inside.tables.now c.self.inside.records.now c.self.inside.failed c.self.inside.workers c.self.inside.strands c.self.invariant.1 c.if-self.false in
    let keeps : KeepsRun c.args.self.now.program c.args.self.now.tables c.args.self.now.records c.args.self.now.strands = subst (λ (core : PlainCore). KeepsRun core.program core.tables core.records core.strands) c.self.view_is kept.0 in
    step_is_taken c.take.result c.args.step.now c.args.self.now c.take.new.self keeps c.take.ensures.taken

pub returns-clause-no_step : goal.returns-clause-no_step
returns-clause-no_step g c =
    let kept = stays_kept c.self.inside.program.now c.self.inside.tables.now c.self.inside.records.now c.self.inside.failed c.self.inside.workers c.self.inside.strands c.self.invariant.1 c.if-self.false in
    let keeps : KeepsRun c.args.self.now.program c.args.self.now.tables c.args.self.now.records c.args.self.now.strands = subst (λ (core : PlainCore). KeepsRun core.program core.tables core.records core.strands) c.self.view_is kept.0 in
    step_is_refused c.take.result c.args.step.now c.args.self.now keeps c.take.ensures.refused

pub returns-clause-unrecorded : goal.returns-clause-unrecorded
returns-clause-unrecorded g c =
    step_passes c.take.result (setting_in c.args.self.now) c.args.self.now.strands c.take.new.self.strands (run_step c.args.step.now) c.take.ensures.taken
