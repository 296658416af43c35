use Rattle.std.proofs.Common.{rules, ◌≡◌, ◌∙◌, sym, ap}
use Rattle.positions.specs.declared.work.Work.TheVariants.{Block, Turns}
use Rattle.positions.specs.Advance.{gone, turned, worked}
use Rattle.activations.specs.Given.{lent}
use Rattle.small_steps.specs.Steps.{GivesNone}
use Rattle.small_steps.proofs.Supplies.{holds_on}
use Rattle.small_steps.proofs.machine.Machine.work.Goals as goal

pub returns-in-Block-clause-worked : goal.returns-in-Block-clause-worked
returns-in-Block-clause-worked g c =
    let s = c.args.self.now in
    let work : s.top.work ≡ Block c.in-Block.position = search rules in
    holds_on (g.K.KitSource.lacks c.args.kits.now) (GivesNone g.K.KitSource.gives c.args.kits.now)
    (λ kit. c.go.new.self ≡ gone (lent c.args.setting) kit c.in-Block.position s)
    (λ kit. c.go.new.self ≡ worked (lent c.args.setting) kit s.top.work s)
    (λ kit h. h ∙ sym (ap (λ w. worked (lent c.args.setting) kit w s) work))
    c.go.result c.go.ensures.gone

pub returns-in-Turns-clause-worked : goal.returns-in-Turns-clause-worked
returns-in-Turns-clause-worked g c =
    let s = c.args.self.now in
    let work : s.top.work ≡ Turns c.in-Turns.site c.in-Turns.share = search rules in
    holds_on (g.K.KitSource.lacks c.args.kits.now) (GivesNone g.K.KitSource.gives c.args.kits.now)
    (λ kit. c.turn.new.self ≡ turned (lent c.args.setting) kit c.in-Turns.site c.in-Turns.share s)
    (λ kit. c.turn.new.self ≡ worked (lent c.args.setting) kit s.top.work s)
    (λ kit h. h ∙ sym (ap (λ w. worked (lent c.args.setting) kit w s) work))
    c.turn.result c.turn.ensures.turned
