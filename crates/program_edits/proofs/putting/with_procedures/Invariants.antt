use Rattle.std.proofs.Common.{◌≡◌, [], map, drop}
use Rattle.meaning.specs.TreeView.{decl, tree, lined, lines}
use Rattle.source_tree.specs.Source.{source}
use Rattle.source_tree.specs.Lowering.{BodiesWithin, most_statements}
use Rattle.program_edits.specs.Putting.{put_all}
use Rattle.program_edits.proofs.putting.with_procedures.Given as goal

abbrev pub invariant-loop-declaration : goal.invariant-loop-declaration
invariant-loop-declaration l = record {
  short : BodiesWithin most_statements (source (drop l.declaration-index l.source));
  made : put_all (map (λ x. x.now) l.seen.items) (source (drop l.declaration-index l.source)) (map decl l.declarations.items, map lined l.declarations.items) ≡ put_all [] (source l.source) (tree l.program, lines l.program);
}
