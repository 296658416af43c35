use Rattle.std.proofs.Common.{rules, ◌≡◌, ◌∙◌, sym, ap}
use Rattle.positions.specs.declared.phase.Phase.TheVariants.{Running}
use Rattle.positions.specs.Advance.{advanced, advanced_at, worked}
use Rattle.activations.specs.Given.{lent}
use Rattle.small_steps.specs.Steps.{GivesNone}
use Rattle.small_steps.proofs.Nesting.{worked_made}
use Rattle.small_steps.proofs.Supplies.{holds_on}
use Rattle.small_steps.proofs.machine.Machine.step_by_phase.Goals as goal

pub returns-in-Running-clause-advanced : goal.returns-in-Running-clause-advanced
returns-in-Running-clause-advanced g c =
    let s = c.args.self.now in
    let phase : s.phase ≡ Running = search rules in
    holds_on (g.K.KitSource.lacks c.args.kits.now) (GivesNone g.K.KitSource.gives c.args.kits.now)
    (λ kit. c.work.new.self ≡ worked (lent c.args.setting) kit s.top.work s)
    (λ kit. c.work.new.self ≡ advanced (lent c.args.setting) kit s)
    (λ kit h. h ∙ sym (ap (λ ph. advanced_at (lent c.args.setting) kit ph s) phase))
    c.work.result c.work.ensures.worked

pub returns-in-Running-clause-made : goal.returns-in-Running-clause-made
returns-in-Running-clause-made g c =
    worked_made (g.K.KitSource.lacks c.args.kits.now) (GivesNone g.K.KitSource.gives c.args.kits.now) (lent c.args.setting) c.args.self.now.top.work c.args.self.now.layer.kinds c.args.self.now c.work.new.self c.work.result c.work.ensures.worked
    c.work.ensures.refused
