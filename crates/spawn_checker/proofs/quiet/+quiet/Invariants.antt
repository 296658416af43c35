use Rattle.std.proofs.Common.{◌≡◌, ◌+◌, ◌*◌, drop}
use Rattle.meaning.specs.TreeView.{block, statements}
use Rattle.linked_program.specs.Rules.{are_quiet}
use Rattle.spawn_checker.proofs.quiet.+quiet.Given as goal

abbrev pub decreases-is_quiet : goal.decreases-is_quiet
decreases-is_quiet l = 3 * l.levels + 1

abbrev pub decreases-is_quiet_block : goal.decreases-is_quiet_block
decreases-is_quiet_block l = 3 * l.levels

abbrev pub decreases-are_quiet : goal.decreases-are_quiet
decreases-are_quiet l = 3 * l.levels + 2

abbrev pub invariant-are_quiet-loop-statement : goal.invariant-are_quiet-loop-statement
invariant-are_quiet-loop-statement l = are_quiet (statements (block l.blocks l.levels) l.statements) ≡ are_quiet (statements (block l.blocks l.levels) (drop l.statement-index l.statements))
