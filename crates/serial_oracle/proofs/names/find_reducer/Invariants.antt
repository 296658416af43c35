use Rattle.std.proofs.Common.{◌≡◌, ◌≤◌, map, drop}
use Rattle.meaning.specs.TreeView.{decl, tree}
use Rattle.meaning.specs.Statements.{numbered, reducers}
use Rattle.serial_oracle.proofs.names.find_reducer.Given as goal

abbrev pub invariant-loop-d : goal.invariant-loop-d
invariant-loop-d l = (numbered 0 (reducers (tree l.program)) l.name ≡ numbered l.n (reducers (map decl (drop l.d-index l.program.declarations.items))) l.name) × (l.n ≤ l.d-index)
