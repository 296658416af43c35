use Rattle.reuse_planner.proofs.Taking.{inline_taken}
use Rattle.reuse_planner.proofs.running.inline.Goals as goal

pub returns-clause-taken : goal.returns-clause-taken
returns-clause-taken g c =
    inline_taken c.args.worker c.args.core.now c.step.new.self c.step.result c.step.ensures.taken c.step.ensures.step c.step.ensures.going c.step.ensures.refused c.step.ensures.no_step
    c.step.ensures.failed c.step.ensures.stands
