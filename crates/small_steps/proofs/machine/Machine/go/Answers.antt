use Rattle.std.proofs.Common.{rules, ◌≡◌, ◌∙◌, Some, length}
use Rattle.positions.specs.Code.{instruction_inside}
use Rattle.positions.specs.Advance.{gone, performed}
use Rattle.activations.specs.Given.{lent}
use Rattle.small_steps.specs.Steps.{GivesNone}
use Rattle.small_steps.proofs.Nesting.{gone_some}
use Rattle.small_steps.proofs.Supplies.{holds_on}
use Rattle.small_steps.proofs.machine.Machine.go.Goals as goal

pub returns-in-Some-clause-gone : goal.returns-in-Some-clause-gone
returns-in-Some-clause-gone g c =
    let s = c.args.self.now in
    let i = c.in-Some.instruction.now in
    let found : Some i ≡ instruction_inside c.args.setting.program.now.codes s.top.procedure (length s.top.outer) c.args.position = search rules in
    holds_on (g.K.KitSource.lacks c.args.kits.now) (GivesNone g.K.KitSource.gives c.args.kits.now)
    (λ kit. c.perform.new.self ≡ performed (lent c.args.setting) kit c.args.position i.number i.operation s)
    (λ kit. c.perform.new.self ≡ gone (lent c.args.setting) kit c.args.position s)
    (λ kit h. h ∙ gone_some (lent c.args.setting) kit c.args.position i s found)
    c.perform.result c.perform.ensures.performed
