use Rattle.std.proofs.Common.{◌≡◌, ◌++◌, drop}
use Rattle.source_tree.specs.Layout.{flats}
use Rattle.program_edits.proofs.copies.copy_blocks.Given as goal

abbrev pub invariant-loop-block : goal.invariant-loop-block
invariant-loop-block l = flats l.out.items ++ flats (drop l.block-index l.blocks) ≡ flats l.blocks
