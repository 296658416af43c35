use Rattle.std.proofs.Common.{arith, ◌≡◌, ◌<◌, ◌≤◌, ◌+◌, length, sym, ap, ◌∙◌}
use Rattle.reuse_planner.proofs.Taking.{with_mark, also, mark_within, takes_turn, takes_end}
use Rattle.reuse_planner.proofs.running.drive.Goals.{then-branch, else-branch}
use Rattle.reuse_planner.proofs.running.drive.Goals as goal

pub loop-step-preserved : goal.loop-step-preserved
loop-step-preserved g c =
    let b = c.in_ok-take.field-0 in
    let i = c.loop-step.step-index in
    let none : c.loop-step.inlined ≡ c.loop-step.inlined + 0 = omega arith in
    let count : c.if-branch.inlined ≡ c.loop-step.inlined + with_mark b 0 = elim c.if-branch.branch [ then-branch w ↦ w.inlined-is ∙ ap (λ x. c.loop-step.inlined + with_mark x 0) (sym w.if-branch.true) | else-branch w ↦ w.inlined-is ∙ (none ∙ ap (λ x. c.loop-step.inlined + with_mark x 0) (sym w.if-branch.false)) ] in
    let within : c.if-branch.inlined ≤ i + 1 = mark_within b c.loop-step.inlined c.if-branch.inlined i count c.loop-step.invariant.within in
    let more : i < length c.args.steps.now = c.loop-step-test.true in
    record {
      same = also c.loop-step.invariant.same c.take.ensures.same;
      within = within;
      short = omega arith;
      takes = takes_turn b c.step-item.result c.args.steps.now i c.loop-step.inlined c.if-branch.inlined c.args.core.now c.loop-step.core c.take.new.core c.loop-step-test.true c.step-item.is count c.in_ok-take.ensures.taken c.loop-step.invariant.takes;
    }

pub returns-clause-taken : goal.returns-clause-taken
returns-clause-taken g c = takes_end c.args.steps.now c.loop-step.step-index c.loop-step.inlined c.args.core.now c.loop-step.core c.loop-step-test.false c.loop-step.invariant.takes
