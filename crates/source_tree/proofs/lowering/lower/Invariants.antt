use Rattle.std.proofs.Common.{◌≡◌, ◌++◌, map, drop}
use Rattle.meaning.specs.TreeView.{decl, lined}
use Rattle.source_tree.specs.Source.{source}
use Rattle.source_tree.specs.Lowering.{lowered_decl, lowered, lines_of, BodiesWithin, most_statements}
use Rattle.source_tree.proofs.lowering.lower.Given as goal

abbrev pub invariant-loop-declaration : goal.invariant-loop-declaration
invariant-loop-declaration l = record {
  short : BodiesWithin most_statements (source (drop l.declaration-index l.source));
  tree : map lowered_decl (map decl l.declarations.items) ++ lowered (source (drop l.declaration-index l.source)) ≡ lowered (source l.source);
  lines : map lined l.declarations.items ++ lines_of (source (drop l.declaration-index l.source)) ≡ lines_of (source l.source);
}
