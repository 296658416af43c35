use Rattle.std.proofs.Common.{◌≡◌, Bool, None, map, sym, subst, OnOk}
use Rattle.meaning.specs.declared.tree.Way.TheVariants.{Call}
use Rattle.linked_program.specs.CodeView.{expression as plain}
use Rattle.evaluation.specs.Values.{values_at}
use Rattle.positions.specs.declared.work.Work.TheVariants.{Turns}
use Rattle.positions.specs.Code.{PlainLoop}
use Rattle.positions.specs.Strands.{PlainStrand}
use Rattle.positions.specs.Advance.{evaluated, nested_memo, rest_of, turn_slots}
use Rattle.activations.specs.Given.{lent, loop_of}
use Rattle.small_steps.specs.Steps.{GivesNone, HoldsBy}
use Rattle.small_steps.proofs.machine.Machine.iterate_memo.Goals as goal

pub returns-clause-turned : goal.returns-clause-turned
returns-clause-turned g c =
    let j : PlainLoop = loop_of c.args.code in
    let lacks = g.K.KitSource.lacks c.args.kits.now in
    let none = GivesNone g.K.KitSource.gives c.args.kits.now in
    let next : Bool → PlainStrand → PlainStrand =
    λ kit s. evaluated j.number (values_at c.args.setting.tables.now.tables (turn_slots j c.args.turns.site c.args.turns.share s) (map plain c.args.code.arguments.now)) (nested_memo (lent c.args.setting) kit j.number Call None (Turns c.args.turns.site (rest_of c.args.turns.share)) j.callee) s in
    let made = c.iterate_memo_by-outcome in
    subst (λ (z : PlainStrand). OnOk made.result (HoldsBy lacks none (λ kit. z ≡ next kit c.args.self.now))) (sym c.self-2.view_is)
    (subst (λ (s : PlainStrand). OnOk made.result (HoldsBy lacks none (λ kit. made.new.self ≡ next kit s))) c.self.view_is made.ensures.turned)
