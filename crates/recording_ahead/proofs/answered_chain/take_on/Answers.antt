use Rattle.std.proofs.Common.{◌∙◌, ap, refl}
use Rattle.positions.specs.Strands.{PlainStrand}
use Rattle.positions.specs.Tallies.{PlainTally}
use Rattle.activations.specs.Given.{lent}
use Rattle.recording_ahead.specs.AnsweredChains.{AreTaken}
use Rattle.own_statements.specs.Leaves.{plain_leaf}
use Rattle.recording_ahead.proofs.AnsweredChains.{batch_taken}
use Rattle.recording_ahead.proofs.answered_chain.take_on.Goals as goal

pub take_behind-requires-clause-few : goal.take_behind-requires-clause-few
take_behind-requires-clause-few g c κs within = c.requires.batch.batch.few

pub take_behind-requires-clause-kinds : goal.take_behind-requires-clause-kinds
take_behind-requires-clause-kinds g c κs within = c.take_batch.ensures.kinds ∙ c.requires.kinds

pub returns-in-Ok-clause-taken : goal.returns-in-Ok-clause-taken
returns-in-Ok-clause-taken g c =
    let S = c.args.setting in
    let m : PlainStrand = c.args.machine.now in
    let n : PlainStrand = c.take_batch.new.machine in
    let b = c.args.batch in
    let first : AreTaken (lent c.args.setting) (plain_leaf c.args.leaf) c.args.batch.count c.args.machine.now.layer c.args.machine.now.tally c.take_batch.new.machine.layer c.take_batch.new.machine.tally =
    batch_taken m.layer.keeps S.program.now S.tables.now.tables S.records.now (plain_leaf c.args.leaf) c.args.ahead.most b.count b.sum.now m.layer n.layer m.tally n.tally
    c.requires.deep c.requires.batch refl c.requires.kinds c.take_batch.ensures.worths c.in-Ok.ensures.layer c.in-Ok.ensures.tally in
    c.take_behind.ensures.taken m.layer m.tally first

pub returns-in-Ok-clause-others : goal.returns-in-Ok-clause-others
returns-in-Ok-clause-others g c =
    let after : PlainStrand = c.take_behind.new.machine in
    c.take_behind.ensures.others ∙ ap (λ (z : PlainStrand). record z { layer = after.layer; tally = after.tally }) c.take_batch.ensures.others

pub returns-in-Ok-clause-opened : goal.returns-in-Ok-clause-opened
returns-in-Ok-clause-opened g c = c.take_behind.ensures.opened ∙ ap (λ (t : PlainTally). t.opened) c.in-Ok.ensures.tally

pub returns-in-Ok-clause-kinds : goal.returns-in-Ok-clause-kinds
returns-in-Ok-clause-kinds g c = c.take_behind.ensures.kinds ∙ c.take_batch.ensures.kinds

pub returns-in-Ok-clause-made : goal.returns-in-Ok-clause-made
returns-in-Ok-clause-made g c = c.take_behind.ensures.made ∙ c.take_batch.ensures.made

pub returns-in-Err-clause-opened : goal.returns-in-Err-clause-opened
returns-in-Err-clause-opened g c = ap (λ (t : PlainTally). t.opened) c.in-Err.ensures.same
