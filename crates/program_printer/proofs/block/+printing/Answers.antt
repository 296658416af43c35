use Rattle.std.proofs.Common.{◌-◌, map, string_bytes}
use Rattle.meaning.specs.TreeView.{block}
use Rattle.program_printer.proofs.Blocks.{statement_put, block_at}
use Rattle.program_printer.proofs.block.+printing.Goals as goal

pub put_block-returns : goal.put_block-returns
put_block-returns t c =
    rw (block_at c.args.procedure.now.blocks.items c.args.levels c.args.number c.if-levels-eq0.false, c.statements_of-body.ensures (block c.args.procedure.now.blocks.items (c.args.levels - 1))) c.put_statements.ensures

pub put_statement-returns-in-If : goal.put_statement-returns-in-If
put_statement-returns-in-If t c = rw c.in-If.is c.put_if.ensures

pub put_statements-loop-statement-preserved : goal.put_statements-loop-statement-preserved
put_statements-loop-statement-preserved t c =
    statement_put (map string_bytes c.args.procedure.now.names.items) (block c.args.procedure.now.blocks.items c.args.levels) c.args.body.now c.loop-statement.statement-index c.statement-item.result
    _ _ _ c.loop-statement-test.true c.statement-item.is c.loop-statement.invariant c.in_ok-put_statement.ensures
