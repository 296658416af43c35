use Rattle.std.proofs.Common.{◌≡◌, ◌∙◌, None, sym, refl, true, map}
use Rattle.meaning.specs.declared.tree.Way.TheVariants.{Call}
use Rattle.linked_program.specs.CodeView.{expression as plain, memo_of}
use Rattle.evaluation.specs.Values.{values_at}
use Rattle.positions.specs.declared.work.Work.TheVariants.{Turns}
use Rattle.positions.specs.Code.{PlainLoop}
use Rattle.positions.specs.Advance.{evaluated, nested_memo, rest_of, turn_slots, turn_by}
use Rattle.activations.specs.Given.{lent, loop_of}
use Rattle.small_steps.specs.Steps.{GivesNone}
use Rattle.small_steps.proofs.Nesting.{called_memo}
use Rattle.small_steps.proofs.Supplies.{holds_on}
use Rattle.small_steps.proofs.machine.Machine.iterate.Goals as goal

pub returns-then-is_memo-clause-turned : goal.returns-then-is_memo-clause-turned
returns-then-is_memo-clause-turned g c =
    let s = c.args.self.now in
    let j : PlainLoop = loop_of c.args.code in
    let slots = turn_slots j c.args.turns.site c.args.turns.share s in
    let es = map plain c.args.code.arguments.now in
    let work = Turns c.args.turns.site (rest_of c.args.turns.share) in
    let memo : memo_of c.args.setting.program.now.codes j.callee ≡ true = sym c.is_memo.ensures.memo ∙ c.if-is_memo.true in
    holds_on (g.K.KitSource.lacks c.args.kits.now) (GivesNone g.K.KitSource.gives c.args.kits.now)
    (λ kit. c.iterate_memo.new.self ≡ evaluated j.number (values_at c.args.setting.tables.now.tables slots es) (nested_memo (lent c.args.setting) kit j.number Call None work j.callee) s)
    (λ kit. c.iterate_memo.new.self ≡ turn_by (lent c.args.setting) kit j c.args.turns.site c.args.turns.share s)
    (λ kit h. h ∙ called_memo (lent c.args.setting) kit j.number Call None work work j.callee es slots s memo refl)
    c.iterate_memo.result c.iterate_memo.ensures.turned
