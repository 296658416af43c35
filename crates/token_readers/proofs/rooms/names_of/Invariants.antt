use Rattle.std.proofs.Common.{◌≡◌, [], map, drop}
use Rattle.meaning.specs.TreeView.{decl}
use Rattle.source_tree.specs.Source.{texts}
use Rattle.token_readers.specs.Rooms.{names_from}
use Rattle.token_readers.proofs.rooms.names_of.Given as goal

abbrev pub invariant-loop-declaration : goal.invariant-loop-declaration
invariant-loop-declaration l = names_from (texts l.names.items) (map decl (drop l.declaration-index l.declarations)) ≡ names_from [] (map decl l.declarations)
