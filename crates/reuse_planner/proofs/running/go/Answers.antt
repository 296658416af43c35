use Rattle.std.proofs.Common.{sym, ◌∙◌}
use Rattle.reuse_planner.specs.Driven.{AreTaken}
use Rattle.reuse_planner.proofs.Ending.{where_ok, ends_by}
use Rattle.reuse_planner.proofs.running.go.Goals as goal

pub returns-clause-led : goal.returns-clause-led
returns-clause-led g c =
    let taken : AreTaken c.args.steps.now c.drive-driven.new.inlined c.args.core c.drive-driven.new.core =
    where_ok c.drive-driven.result (AreTaken c.args.steps.now c.drive-driven.new.inlined c.args.core c.drive-driven.new.core) (sym c.is_err.ensures.value ∙ c.if-is_err.false) c.drive-driven.ensures.taken in
    ends_by c.args.core c.drive-driven.new.core c.args.steps.now c.drive-driven.new.inlined c.finish-answer.result.0 c.drive-driven.ensures.within c.requires.going taken c.finish-answer.ensures.comes
