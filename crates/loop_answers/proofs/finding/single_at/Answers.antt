use Rattle.std.proofs.Common.{rules, to_z, of_z, w64, ◌≡◌, ℤ, true, [], IfSome, subst}
use Rattle.activations.specs.Given.{lent, loop_of}
use Rattle.loop_answers.specs.Batches.{IsBatchFrom}
use Rattle.loop_answers.proofs.Replays.{singles_answer}
use Rattle.loop_answers.proofs.finding.single_at.Goals as goal

pub returns-clause-batch : goal.returns-clause-batch
returns-clause-batch g c =
    let S = lent c.args.setting in
    let a = c.args.code in
    let s = c.args.machine.now in
    let known : c.unread_values_at.result ≡ true = search rules in
    let j = loop_of a in
    let v : ℤ = to_z w64 (of_z w64 c.args.ahead.number) in
    let same : v ≡ c.args.ahead.number = search rules in
    subst (λ (u : ℤ). IfSome c.single.result (IsBatchFrom S s.layer.keeps j s.top.slots s.top.left u c.args.ahead.most)) same
    (singles_answer c.args.setting.program.now c.args.setting.tables.now.tables [] c.args.setting.records.now j s.top.slots s.top.left c.args.ahead.depth c.requires.deep c.requires.depth
    s.layer.keeps c.single.result c.args.ahead.most v c.unread_values_at.new.numbers.items c.deref.result.now c.deref.ensures.value c.requires.some c.requires.values (c.unread_values_at.ensures.values known) c.single.ensures.single)
