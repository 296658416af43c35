use Rattle.std.proofs.Common.{arith, rules, ◌≡◌, ◌∙◌, ◌-◌, ◌<◌, ◌+ℤ◌, ◌∷◌, [], ℕ, pos, Some, subst, sym, ap}
use Rattle.meaning.specs.Elision.{depth_limit}
use Rattle.positions.specs.Advance.{record_for}
use Rattle.positions.specs.Layers.{absorbing}
use Rattle.positions.specs.Strands.{PlainStrand}
use Rattle.activations.specs.Given.{lent}
use Rattle.own_statements.specs.Leaves.{plain_leaf}
use Rattle.recording_ahead.proofs.AnsweredChains.{taken_more, answer_values}
use Rattle.recording_ahead.proofs.answered_row.take_row.Goals as goal

pub take_one-requires-clause-values : goal.take_one-requires-clause-values
take_one-requires-clause-values g c κs within =
    let S = c.args.setting in
    let f = plain_leaf c.args.leaf in
    let r = c.in-Some.record.now in
    let depth : c.saturating_sub-depth.result ≡ depth_limit - c.args.leaf.left = search rules in
    let deep : 0 < c.saturating_sub-depth.result = subst (λ (n : ℕ). 0 < n) (sym depth) c.requires.deep in
    answer_values S.program.now S.tables.now.tables S.records.now c.saturating_sub-depth.result f.callee ((f.number +ℤ pos c.loop.passed.count) ∷ []) r deep c.requires.answers c.in-Some.ensures.answer

pub loop-preserved : goal.loop-preserved
loop-preserved g c =
    let S = c.args.setting in
    let f = plain_leaf c.args.leaf in
    let r = c.in-Some.record.now in
    let before : PlainStrand = c.loop.machine in
    let after : PlainStrand = c.take_one.new.machine in
    let depth : c.saturating_sub-depth.result ≡ depth_limit - c.args.leaf.left = search rules in
    let found : record_for (lent c.args.setting) (depth_limit - c.args.leaf.left) c.args.leaf.callee ((c.args.leaf.number +ℤ pos c.loop.passed.count) ∷ []) ≡ Some c.in-Some.record.now =
    subst (λ (d : ℕ). record_for (lent c.args.setting) d c.args.leaf.callee ((c.args.leaf.number +ℤ pos c.loop.passed.count) ∷ []) ≡ Some c.in-Some.record.now) depth c.in-Some.ensures.answer in
    let layer : c.take_one.new.machine.layer ≡ absorbing c.in-Some.record.now (depth_limit - c.args.leaf.left) c.loop.machine.layer =
    c.in-Ok.ensures.layer ∙ ap (λ (d : ℕ). absorbing c.in-Some.record.now d c.loop.machine.layer) depth in
    record {
      taken = λ k t h. taken_more (lent S) f c.loop.passed.count k before.layer after.layer t before.tally after.tally r (c.loop.invariant.taken k t h) found layer c.in-Ok.ensures.tally;
      few = (let below : c.loop.passed.count < c.args.most = search rules in omega (arith, below));
      others = c.take_one.ensures.others ∙ ap (λ (z : PlainStrand). record z { layer = after.layer; tally = after.tally }) c.loop.invariant.others;
      opened = c.take_one.ensures.opened ∙ c.loop.invariant.opened;
      kinds = c.take_one.ensures.kinds ∙ c.loop.invariant.kinds;
      made = c.take_one.ensures.made ∙ c.loop.invariant.made;
    }

pub returns-in-Err-clause-others : goal.returns-in-Err-clause-others
returns-in-Err-clause-others g c =
    let after : PlainStrand = c.take_one.new.machine in
    c.take_one.ensures.others ∙ ap (λ (z : PlainStrand). record z { layer = after.layer; tally = after.tally }) c.loop.invariant.others

pub returns-in-Err-clause-opened : goal.returns-in-Err-clause-opened
returns-in-Err-clause-opened g c = c.take_one.ensures.opened ∙ c.loop.invariant.opened

pub returns-in-Err-clause-kinds : goal.returns-in-Err-clause-kinds
returns-in-Err-clause-kinds g c = c.take_one.ensures.kinds ∙ c.loop.invariant.kinds

pub returns-in-Err-clause-made : goal.returns-in-Err-clause-made
returns-in-Err-clause-made g c = c.take_one.ensures.made ∙ c.loop.invariant.made
