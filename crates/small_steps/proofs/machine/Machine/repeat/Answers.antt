use Rattle.std.proofs.Common.{◌≡◌, ◌∙◌, length, subst}
use Rattle.linked_program.specs.CodeView.{expression as plain}
use Rattle.evaluation.specs.declared.ranges.LoopRange.{LoopRange}
use Rattle.evaluation.specs.Values.{bounds_at}
use Rattle.positions.specs.Strands.{PlainStrand}
use Rattle.positions.specs.Advance.{looping}
use Rattle.small_steps.proofs.Undone.{goes_on, is_faulted, is_undone}
use Rattle.small_steps.proofs.machine.Machine.repeat.Goals as goal

pub returns-in-Ok-clause-looped : goal.returns-in-Ok-clause-looped
returns-in-Ok-clause-looped g c =
    let s = c.args.self.now in
    let out = bounds_at c.args.tables.now.tables s.top.slots (plain c.args.low.now) (plain c.args.high.now) in
    c.in-Ok.ensures.looped
    ∙ goes_on (λ (r : LoopRange). (r.low, r.count)) c.args.statement out s c.bounds.new.self c.in_ok-range.field-0 c.in_ok-range.ensures.evaluated (looping c.args.position) c.in-Some.range c.in-Some.is

pub returns-in-Err-clause-unchanged : goal.returns-in-Err-clause-unchanged
returns-in-Err-clause-unchanged g c =
    let s = c.args.self.now in
    let out = bounds_at c.args.tables.now.tables s.top.slots (plain c.args.low.now) (plain c.args.high.now) in
    let count : c.readings-before.result ≡ length s.layer.notes =
    subst (λ (z : PlainStrand). c.readings-before.result ≡ length z.layer.notes) c.self.view_is c.readings-before.ensures.count in
    is_undone (λ (r : LoopRange). (r.low, r.count)) c.args.statement out s c.bounds.new.self c.in_ok-range.field-0 c.in_ok-range.ensures.evaluated c.in-Some.range c.push_loop.new.self c.forget.new.self
    c.readings-before.result c.in-Some.is count c.in-Err.ensures.unchanged c.forget.ensures.forgotten

pub returns-in-None-clause-looped : goal.returns-in-None-clause-looped
returns-in-None-clause-looped g c =
    let s = c.args.self.now in
    let out = bounds_at c.args.tables.now.tables s.top.slots (plain c.args.low.now) (plain c.args.high.now) in
    is_faulted (λ (r : LoopRange). (r.low, r.count)) c.args.statement out s c.bounds.new.self c.in_ok-range.field-0 c.in_ok-range.ensures.evaluated (looping c.args.position) c.in-None.is
