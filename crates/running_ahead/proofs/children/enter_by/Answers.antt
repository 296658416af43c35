use Rattle.std.proofs.Common.{rules, ◌≡◌, ◌∙◌, false, map}
use Rattle.linked_program.specs.CodeView.{expression, memo_of}
use Rattle.positions.specs.declared.work.Work.TheVariants.{Block}
use Rattle.activations.specs.Given.{lent}
use Rattle.running_ahead.proofs.Paths.{ahead_here, called_plain}
use Rattle.running_ahead.proofs.children.enter_by.Goals as goal

pub returns-then-is_memo-clause-ahead : goal.returns-then-is_memo-clause-ahead
returns-then-is_memo-clause-ahead g c e = ahead_here (lent c.args.setting) c.args.machine.now

pub returns-then-not-calls-clause-ahead : goal.returns-then-not-calls-clause-ahead
returns-then-not-calls-clause-ahead g c e = ahead_here (lent c.args.setting) c.args.machine.now

pub returns-clause-ahead : goal.returns-clause-ahead
returns-clause-ahead g c e =
    let S = lent c.args.setting in
    let s = c.args.machine.now in
    let callee = c.args.callee in
    let memo : memo_of S.codes callee.procedure ≡ false = search rules in
    c.enter_plain_ahead.ensures.ahead
    (λ kit. called_plain S kit c.args.statement callee.way callee.into (Block callee.next) callee.procedure (map expression callee.arguments.now) s.top.slots s memo ∙ e kit)
