use Rattle.std.proofs.Common.{rules, ◌≡◌, ◌∙◌, ◌==◌, false}
use Rattle.positions.specs.Code.{PlainLoop, loop_at}
use Rattle.positions.specs.Advance.{turned, turn_by}
use Rattle.activations.specs.Given.{lent, loop_of}
use Rattle.small_steps.specs.Steps.{GivesNone}
use Rattle.small_steps.proofs.Nesting.{turned_more}
use Rattle.small_steps.proofs.Supplies.{holds_on}
use Rattle.small_steps.proofs.machine.Machine.turn.Goals as goal

pub returns-clause-turned : goal.returns-clause-turned
returns-clause-turned g c =
    let s = c.args.self.now in
    let code = c.loop_code-code.result in
    let j : PlainLoop = loop_of code in
    let more : (c.args.share.count == 0) ≡ false = search rules in
    let found : j ≡ loop_at c.args.setting.program.now.codes s.top.procedure c.args.site = search rules in
    holds_on (g.K.KitSource.lacks c.args.kits.now) (GivesNone g.K.KitSource.gives c.args.kits.now)
    (λ kit. c.iterate.new.self ≡ turn_by (lent c.args.setting) kit j c.args.site c.args.share s)
    (λ kit. c.iterate.new.self ≡ turned (lent c.args.setting) kit c.args.site c.args.share s)
    (λ kit h. h ∙ turned_more (lent c.args.setting) kit c.args.site c.args.share s j more found)
    c.iterate.result c.iterate.ensures.turned
