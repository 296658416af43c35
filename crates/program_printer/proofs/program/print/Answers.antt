use Rattle.std.proofs.Common.{string_bytes}
use Rattle.meaning.specs.TreeView.{tree}
use Rattle.program_printer.specs.Printing.{printed}
use Rattle.program_printer.proofs.Blocks.{declaration_put, all_put}
use Rattle.program_printer.proofs.program.print.Goals as goal

pub loop-declaration-preserved : goal.loop-declaration-preserved
loop-declaration-preserved c =
    declaration_put _ c.deref-declaration-items.result.now c.loop-declaration.declaration-index c.declaration-item.result _ _ c.loop-declaration-test.true c.declaration-item.is c.loop-declaration.invariant c.in_ok-put_declaration.ensures

pub returns : goal.returns
returns c = record {
  printed = rw c.into_bytes.ensures.value (all_put (printed (tree c.args.program.now)) c.deref-declaration-items.result.now c.loop-declaration.declaration-index (string_bytes c.loop-declaration.text) c.loop-declaration-test.false c.loop-declaration.invariant);
}
