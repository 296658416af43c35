use Rattle.std.proofs.Common.{◌≡◌, Bool, List, map, sym, ap, ◌∙◌}
use Rattle.linked_program.specs.CodeView.{expression as plain}
use Rattle.linked_program.specs.declared.code.Expression.{Expression}
use Rattle.linked_program.specs.declared.code.Operation.{Operation}
use Rattle.positions.specs.declared.work.Work.TheVariants.{Block}
use Rattle.positions.specs.declared.work.Position.{Position}
use Rattle.positions.specs.Advance.{called, performed}
use Rattle.activations.specs.Given.{lent}
use Rattle.small_steps.specs.Steps.{GivesNone}
use Rattle.small_steps.proofs.Supplies.{holds_on}
use Rattle.small_steps.proofs.machine.Machine.perform.Goals as goal

pub returns-in-Enter-clause-performed : goal.returns-in-Enter-clause-performed
returns-in-Enter-clause-performed g c =
    let s = c.args.self.now in
    let n = c.args.instruction.now.number in
    let by = λ (kit : Bool) (p : Position) (es : List Expression). called (lent c.args.setting) kit n c.in-Enter.way c.in-Enter.into (Block p) c.in-Enter.callee (map plain es) s.top.slots s in
    holds_on (g.K.KitSource.lacks c.args.kits.now) (GivesNone g.K.KitSource.gives c.args.kits.now)
    (λ kit. c.enter.new.self ≡ by kit c.next_of.result c.as_slice-arguments.result.now)
    (λ kit. c.enter.new.self ≡ performed (lent c.args.setting) kit c.args.position n c.args.instruction.now.operation s)
    (λ kit h.
    h ∙ ap (by kit c.next_of.result) c.as_slice-arguments.ensures.value ∙ ap (λ (p : Position). by kit p c.in-Enter.arguments.items) c.next_of.ensures.next
    ∙ sym (ap (λ (o : Operation). performed (lent c.args.setting) kit c.args.position n o s) c.in-Enter.is))
    c.enter.result c.enter.ensures.called
