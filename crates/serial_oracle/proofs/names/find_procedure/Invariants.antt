use Rattle.std.proofs.Common.{◌≡◌, map, drop}
use Rattle.meaning.specs.TreeView.{decl, tree}
use Rattle.meaning.specs.Statements.{procedure_of}
use Rattle.serial_oracle.proofs.names.find_procedure.Given as goal

abbrev pub invariant-loop-d : goal.invariant-loop-d
invariant-loop-d l = procedure_of (tree l.program) l.name ≡ procedure_of (map decl (drop l.d-index l.program.declarations.items)) l.name
