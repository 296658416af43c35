use Rattle.std.proofs.Common.{◌≡◌, ◌++◌, map, drop}
use Rattle.meaning.specs.TreeView.{decl, lined}
use Rattle.program_edits.proofs.copies.copy_declarations.Given as goal

abbrev pub invariant-loop-declaration : goal.invariant-loop-declaration
invariant-loop-declaration l = record {
  tree : map decl l.out.items ++ map decl (drop l.declaration-index l.declarations) ≡ map decl l.declarations;
  lines : map lined l.out.items ++ map lined (drop l.declaration-index l.declarations) ≡ map lined l.declarations;
}
