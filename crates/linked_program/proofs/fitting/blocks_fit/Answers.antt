use Rattle.std.proofs.Common.{arith}
use Rattle.linked_program.specs.Fitting.{BlockFits}
use Rattle.linked_program.proofs.Fits.{none_left, block_fits}
use Rattle.linked_program.proofs.fitting.blocks_fit.Goals as goal

pub returns : goal.returns
returns c =
    let bs = c.args.blocks.now in
    let i = c.loop-block.block-index in
    block_fits bs (c.loop-block.invariant (none_left BlockFits bs i (omega (arith, c.loop-block-test.false))))
