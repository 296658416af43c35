use Rattle.std.proofs.Common.{◌+◌, ◌*◌}
use Rattle.meaning.specs.TreeView.{term}
use Rattle.program_printer.proofs.Sizes.{size}
use Rattle.program_printer.proofs.expression.+expressions.Given as goal

abbrev pub decreases-put_expression : goal.decreases-put_expression
decreases-put_expression l = 2 * size (term l.expr.now)

abbrev pub decreases-put_cell : goal.decreases-put_cell
decreases-put_cell l = 2 * size (term l.row.now) + 1

abbrev pub decreases-put_binary : goal.decreases-put_binary
decreases-put_binary l = 2 * (size (term l.left.now) + size (term l.right.now)) + 1
