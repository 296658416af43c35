use Rattle.std.proofs.Common.{take, ◌∙◌, refl}
use Rattle.single_rules.proofs.Lists.{take_one_more}
use Rattle.single_rules.proofs.Steps.{block_lines_more}
use Rattle.single_rules.proofs.lines.LineTable.new.Goals as goal

pub loop-block-preserved : goal.loop-block-preserved
loop-block-preserved c =
    let bs = c.args.blocks.now in
    let i = c.loop-block.block-index in
    let b = c.block-item.result in
    rw (take_one_more bs i b c.loop-block-test.true c.block-item.is, block_lines_more (take i bs) b)
    (c.in_ok-push_lines.ensures ∙ rw (c.loop-block.invariant, c.deref.ensures.value) refl)
