use Rattle.std.proofs.Common.{map, take}
use Rattle.meaning.specs.TreeView.{decl}
use Rattle.linked_program.specs.TableNames.{columned}
use Rattle.linked_program.specs.declared.code.CodeBlock.{CodeBlock}
use Rattle.linked_program.specs.CodeView.{AreShort}
use Rattle.linked_program.proofs.Pushes.{take_one_more, block_push}
use Rattle.linked_program.proofs.Shorts.{all_push}
use Rattle.linked_program.proofs.linking.code_blocks.Goals as goal

pub loop-block-preserved : goal.loop-block-preserved
loop-block-preserved c =
    let ts = map columned c.args.tables.now in
    let t = map decl c.args.declarations.now in
    let bs = c.args.blocks.now in
    let i = c.loop-block.block-index in
    let b = c.block-item.result in
    let cs = c.loop-block.made.items in
    let x : CodeBlock = record { instructions = c.in_ok-instructions.instructions } in
    record {
      blocks = rw (c.in_ok-push.ensures.items, take_one_more bs i b c.loop-block-test.true c.block-item.is)
          (block_push ts t cs (take i bs) x b c.loop-block.invariant.blocks (rw c.deref.ensures.value at c.in_ok-instructions.ensures.acts));
      short = rw (c.in_ok-push.ensures.items) (all_push (λ (y : CodeBlock). AreShort c.args.kinds.now y.instructions.items) cs x c.loop-block.invariant.short c.in_ok-instructions.ensures.short);
    }
