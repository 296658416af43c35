use Rattle.std.proofs.Common.{◌≡◌, ◌++◌, take}
use Rattle.meaning.specs.TreeView.{statement_lines}
use Rattle.single_rules.proofs.lines.push_lines.Given as goal

abbrev pub invariant-loop-statement : goal.invariant-loop-statement
invariant-loop-statement l = l.pairs.items ≡ l.initial.pairs.items ++ statement_lines (take l.statement-index l.statements)
