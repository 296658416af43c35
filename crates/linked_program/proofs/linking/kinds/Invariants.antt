use Rattle.std.proofs.Common.{◌≡◌, ◌++◌, map, drop}
use Rattle.meaning.specs.TreeView.{decl}
use Rattle.linked_program.specs.Linked.{kinds_of}
use Rattle.linked_program.proofs.linking.kinds.Given as goal

abbrev pub invariant-loop-declaration : goal.invariant-loop-declaration
invariant-loop-declaration l = kinds_of (map decl l.declarations) ≡ l.made.items ++ kinds_of (map decl (drop l.declaration-index l.declarations))
