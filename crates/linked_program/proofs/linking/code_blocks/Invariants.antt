use Rattle.std.proofs.Common.{map, take}
use Rattle.meaning.specs.TreeView.{decl}
use Rattle.linked_program.specs.TableNames.{columned}
use Rattle.linked_program.specs.CodeView.{AreBlocksOf, AreShortBlocks}
use Rattle.linked_program.proofs.linking.code_blocks.Given as goal

abbrev pub invariant-loop-block : goal.invariant-loop-block
invariant-loop-block l = record {
  blocks : AreBlocksOf (map columned l.tables) (map decl l.declarations) l.made.items (take l.block-index l.blocks);
  short : AreShortBlocks l.kinds l.made.items;
}
