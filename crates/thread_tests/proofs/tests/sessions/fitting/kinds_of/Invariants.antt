use Rattle.std.proofs.Common.{◌≡◌, ◌++◌, map, drop}
use Rattle.meaning.specs.TreeView.{decl, tree}
use Rattle.serial_oracle.specs.Worths.{kinds}
use Rattle.thread_tests.proofs.tests.sessions.fitting.kinds_of.Given as goal

abbrev pub invariant-loop-declaration : goal.invariant-loop-declaration
invariant-loop-declaration l = kinds (tree l.program) ≡ l.found.items ++ kinds (map decl (drop l.declaration-index l.program.declarations.items))
