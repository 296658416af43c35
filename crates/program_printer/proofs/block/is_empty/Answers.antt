use Rattle.std.proofs.Common.{◌-◌, ◌∙◌, sym}
use Rattle.meaning.specs.TreeView.{block}
use Rattle.program_printer.proofs.Blocks.{block_at, no_statements}
use Rattle.program_printer.proofs.block.is_empty.Goals as goal

pub returns-else-levels-eq0 : goal.returns-else-levels-eq0
returns-else-levels-eq0 c =
    let inner = block c.args.procedure.now.blocks.items (c.args.levels - 1) in
    c.is_empty.ensures ∙ sym (rw (block_at c.args.procedure.now.blocks.items c.args.levels c.args.number c.if-levels-eq0.false, c.statements_of.ensures inner) (no_statements inner c.statements_of.result.now))
