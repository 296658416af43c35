use Rattle.std.proofs.Common.{ℕ, drop}
use Rattle.meaning.specs.Tree.{Body}
use Rattle.meaning.specs.TreeView.{statements}
use Rattle.meaning.specs.Fitting.{FitsBody}
use Rattle.linked_program.proofs.fitting.statements_fit.Given as goal

abbrev pub invariant-loop-statement : goal.invariant-loop-statement
invariant-loop-statement l = (inner : ℕ → Body) → ((n : ℕ) → FitsBody (inner n)) → FitsBody (statements inner (drop l.statement-index l.statements)) → FitsBody (statements inner l.statements)
