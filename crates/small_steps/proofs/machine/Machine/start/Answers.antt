use Rattle.std.proofs.Common.{rules, ◌≡◌, ◌∙◌, true}
use Rattle.linked_program.specs.CodeView.{memo_of}
use Rattle.positions.specs.declared.work.Work.TheVariants.{Block}
use Rattle.positions.specs.Advance.{answer_for, recalled, started}
use Rattle.activations.specs.Given.{lent}
use Rattle.small_steps.specs.Steps.{GivesNone}
use Rattle.small_steps.proofs.Memos.{started_memo}
use Rattle.small_steps.proofs.Supplies.{holds_on}
use Rattle.small_steps.proofs.machine.Machine.start.Goals as goal

pub returns-then-is_memo-clause-started : goal.returns-then-is_memo-clause-started
returns-then-is_memo-clause-started g c =
    let work : c.args.self.now.top.work ≡ Block c.in-Block.field-0 = search rules in
    let memo : memo_of c.args.setting.program.now.codes c.args.self.now.top.procedure ≡ true = search rules in
    holds_on (g.K.KitSource.lacks c.args.kits.now) (GivesNone g.K.KitSource.gives c.args.kits.now)
    (λ kit. c.recall.new.self ≡ recalled (lent c.args.setting) kit (answer_for (lent c.args.setting) c.args.self.now) c.args.self.now)
    (λ kit. c.recall.new.self ≡ started (lent c.args.setting) kit c.args.self.now)
    (λ kit e. e ∙ started_memo (lent c.args.setting) kit c.args.self.now c.in-Block.field-0 work memo)
    c.recall.result c.recall.ensures.recalled
