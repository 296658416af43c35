use Rattle.std.proofs.Common.{◌≡◌, ℕ, drop}
use Rattle.meaning.specs.Tree.{Body}
use Rattle.meaning.specs.TreeView.{statements}
use Rattle.linked_program.specs.Scope.{closed}
use Rattle.spawn_checker.proofs.walk.close_statements.Given as goal

abbrev pub invariant-loop-statement : goal.invariant-loop-statement
invariant-loop-statement l = (inner : ℕ → Body) → closed l.depth l.initial.scope (statements inner l.statements) ≡ closed l.depth l.scope (statements inner (drop l.statement-index l.statements))
