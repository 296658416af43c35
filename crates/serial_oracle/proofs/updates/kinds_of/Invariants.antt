use Rattle.std.proofs.Common.{◌≡◌, ◌++◌, map, drop}
use Rattle.meaning.specs.TreeView.{decl, tree}
use Rattle.serial_oracle.specs.Worths.{kinds}
use Rattle.serial_oracle.proofs.updates.kinds_of.Given as goal

abbrev pub invariant-loop-d : goal.invariant-loop-d
invariant-loop-d l = kinds (tree l.program) ≡ l.found.items ++ kinds (map decl (drop l.d-index l.program.declarations.items))
