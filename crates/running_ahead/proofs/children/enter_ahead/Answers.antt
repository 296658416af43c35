use Rattle.std.proofs.Common.{Bool, List, map, sym, ap, ◌∙◌}
use Rattle.linked_program.specs.CodeView.{expression as plain}
use Rattle.linked_program.specs.declared.code.Expression.{Expression}
use Rattle.linked_program.specs.declared.code.Operation.{Operation}
use Rattle.positions.specs.declared.work.Work.TheVariants.{Block}
use Rattle.positions.specs.declared.work.Position.{Position}
use Rattle.positions.specs.Advance.{called, performed}
use Rattle.activations.specs.Given.{lent}
use Rattle.running_ahead.proofs.Paths.{ahead_here}
use Rattle.running_ahead.proofs.children.enter_ahead.Goals as goal

pub returns-in-Enter-clause-ahead : goal.returns-in-Enter-clause-ahead
returns-in-Enter-clause-ahead g c e =
    let S = lent c.args.setting in
    let s = c.args.machine.now in
    let n = c.args.instruction.now.number in
    let by = λ (kit : Bool) (p : Position) (es : List Expression). called S kit n c.in-Enter.way c.in-Enter.into (Block p) c.in-Enter.callee (map plain es) s.top.slots s in
    c.enter_by.ensures.ahead
    (λ kit. ap (by kit c.next_of.result) c.as_slice-arguments.ensures.value ∙ ap (λ (p : Position). by kit p c.in-Enter.arguments.items) c.next_of.ensures.next
    ∙ sym (ap (λ (o : Operation). performed S kit c.args.position n o s) c.in-Enter.is) ∙ e kit)

pub returns-in_default-clause-ahead : goal.returns-in_default-clause-ahead
returns-in_default-clause-ahead g c e = ahead_here (lent c.args.setting) c.args.machine.now
