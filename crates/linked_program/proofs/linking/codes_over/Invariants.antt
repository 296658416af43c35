use Rattle.std.proofs.Common.{map, take}
use Rattle.meaning.specs.TreeView.{decl}
use Rattle.linked_program.specs.TableNames.{columned}
use Rattle.linked_program.specs.Procedures.{procedures}
use Rattle.linked_program.specs.CodeView.{AreCodesOf}
use Rattle.linked_program.proofs.linking.codes_over.Given as goal

abbrev pub invariant-loop-declaration : goal.invariant-loop-declaration
invariant-loop-declaration l = AreCodesOf (map columned l.tables) (map decl l.declarations) l.made.items (procedures (map decl (take l.declaration-index l.declarations)))
