use Rattle.std.proofs.Common.{◌≡◌, true, false, sym, subst, ◌∙◌}
use Rattle.numbered_runs.specs.declared.step.Step.{Step}
use Rattle.worker_core.specs.Cores.{is_no_memory, failed_by, StandsAfter}
use Rattle.reuse_planner.specs.Driven.{IsTaken}
use Rattle.reuse_planner.proofs.Taking.{also, same_taken, same_refused, step_taken, step_passed, push_unchanged, push_as_inline}
use Rattle.reuse_planner.proofs.running.take.Goals as goal

pub returns-in-Push-clause-taken : goal.returns-in-Push-clause-taken
returns-in-Push-clause-taken g c =
    let q : is_no_memory c.in-Err.refusal ≡ true = sym c.is_no_memory.ensures.memory ∙ c.if-not-is_no_memory.false in
    subst (λ (s : Step). IsTaken true s c.args.core.now c.inline.new.core) (sym c.in-Push.is)
    (push_as_inline c.in-Push.worker c.args.core.now c.step.new.self c.inline.new.core
    (push_unchanged c.in-Push.worker c.in-Err.refusal c.args.core.now c.step.new.self q
    (subst (λ (s : Step). c.step.new.self ≡ record (failed_by s c.in-Err.refusal c.args.core.now) { strands = c.step.new.self.strands }) c.in-Push.is c.in-Err.ensures.failed)
    (subst (λ (s : Step). StandsAfter s c.in-Err.refusal c.args.core.now.strands c.step.new.self.strands) c.in-Push.is c.in-Err.ensures.stands))
    c.inline.ensures.taken)

pub returns-in-Ok-clause-taken : goal.returns-in-Ok-clause-taken
returns-in-Ok-clause-taken g c = step_taken c.args.step.now c.args.core.now c.step.new.self c.in-Ok.ensures.going c.in-Ok.ensures.taken c.in-Ok.ensures.step

pub returns-in-Ok-clause-same : goal.returns-in-Ok-clause-same
returns-in-Ok-clause-same g c = same_taken c.args.core.now c.step.new.self c.in-Ok.ensures.going c.step.ensures.kits c.step.ensures.total

pub returns-then-not-is_no_memory-clause-taken : goal.returns-then-not-is_no_memory-clause-taken
returns-then-not-is_no_memory-clause-taken g c =
    let q : is_no_memory c.in-Err.refusal ≡ false = sym c.is_no_memory.ensures.memory ∙ c.if-not-is_no_memory.true in
    step_passed c.args.step.now c.in-Err.refusal c.args.core.now c.step.new.self q c.in-Err.ensures.failed c.in-Err.ensures.stands c.in-Err.ensures.no_step

pub returns-then-not-is_no_memory-clause-same : goal.returns-then-not-is_no_memory-clause-same
returns-then-not-is_no_memory-clause-same g c = same_refused c.args.step.now c.in-Err.refusal c.args.core.now c.step.new.self c.in-Err.ensures.failed c.step.ensures.kits c.step.ensures.total

pub returns-in-Push-clause-same : goal.returns-in-Push-clause-same
returns-in-Push-clause-same g c =
    also (same_refused c.args.step.now c.in-Err.refusal c.args.core.now c.step.new.self c.in-Err.ensures.failed c.step.ensures.kits c.step.ensures.total) c.inline.ensures.same

pub returns-in_default-clause-same : goal.returns-in_default-clause-same
returns-in_default-clause-same g c = same_refused c.args.step.now c.in-Err.refusal c.args.core.now c.step.new.self c.in-Err.ensures.failed c.step.ensures.kits c.step.ensures.total
