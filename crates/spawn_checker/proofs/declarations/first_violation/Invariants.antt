use Rattle.std.proofs.Common.{◌≡◌, map, drop}
use Rattle.meaning.specs.TreeView.{decl, lined}
use Rattle.linked_program.specs.Violations.{noted, first_of}
use Rattle.linked_program.specs.Declarations.{violations, decls_violations}
use Rattle.linked_program.specs.TableNames.{columned}
use Rattle.spawn_checker.proofs.declarations.first_violation.Given as goal

abbrev pub invariant-loop-number : goal.invariant-loop-number
invariant-loop-number l =
    first_of (violations (map columned l.tables) (map decl l.declarations) (map lined l.declarations)) ≡ noted l.found (decls_violations (map decl l.declarations) (map columned l.tables) l.number (map decl (drop l.number l.declarations)) (map lined (drop l.number l.declarations)))
