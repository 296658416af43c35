use Rattle.std.proofs.Common.{◌≡◌, take}
use Rattle.meaning.specs.TreeView.{block_lines}
use Rattle.single_rules.proofs.lines.LineTable.new.Given as goal

abbrev pub invariant-loop-block : goal.invariant-loop-block
invariant-loop-block l = l.pairs.items ≡ block_lines (take l.block-index l.blocks)
