use Rattle.std.proofs.Common.{◌≡◌, ◌++◌, drop}
use Rattle.source_tree.specs.Layout.{entries}
use Rattle.program_edits.proofs.copies.copy_statements.Given as goal

abbrev pub invariant-loop-statement : goal.invariant-loop-statement
invariant-loop-statement l = entries l.out.items ++ entries (drop l.statement-index l.statements) ≡ entries l.statements
