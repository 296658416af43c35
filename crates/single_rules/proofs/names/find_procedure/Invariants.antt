use Rattle.std.proofs.Common.{◌≡◌, map, drop}
use Rattle.meaning.specs.TreeView.{decl}
use Rattle.meaning.specs.Statements.{procedure_of}
use Rattle.single_rules.proofs.names.find_procedure.Given as goal

abbrev pub invariant-loop-declaration : goal.invariant-loop-declaration
invariant-loop-declaration l = procedure_of (map decl l.declarations) l.name ≡ procedure_of (map decl (drop l.declaration-index l.declarations)) l.name
