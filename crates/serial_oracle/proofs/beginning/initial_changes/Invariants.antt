use Rattle.std.proofs.Common.{◌≡◌, ◌≤◌, ◌++◌, map, drop}
use Rattle.meaning.specs.TreeView.{decl}
use Rattle.meaning.specs.Statements.{reducers, initial_updates, beginning}
use Rattle.serial_oracle.specs.Keeping.{tree_in}
use Rattle.serial_oracle.specs.Worths.{kinds, noted_in}
use Rattle.serial_oracle.proofs.beginning.initial_changes.Given as goal

abbrev pub invariant-loop-d : goal.invariant-loop-d
invariant-loop-d l = record {
  so_far : noted_in l.scope l.changes.items ++ initial_updates l.n (reducers (map decl (drop l.d-index l.scope.program.now.declarations.items))) ≡ beginning (tree_in l.scope);
  kinds_left : drop l.n (kinds (tree_in l.scope)) ≡ kinds (map decl (drop l.d-index l.scope.program.now.declarations.items));
  counted : l.n ≤ l.d-index;
}
