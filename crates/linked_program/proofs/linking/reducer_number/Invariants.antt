use Rattle.std.proofs.Common.{◌≡◌, ◌+◌, ◌≤◌, map, drop}
use Rattle.meaning.specs.TreeView.{decl}
use Rattle.meaning.specs.Statements.{reducers}
use Rattle.linked_program.specs.Linked.{reducer_number}
use Rattle.linked_program.proofs.linking.reducer_number.Given as goal

abbrev pub invariant-loop-declaration : goal.invariant-loop-declaration
invariant-loop-declaration l = record {
  same : reducer_number (reducers (map decl l.declarations)) l.name ≡ l.number + reducer_number (reducers (map decl (drop l.declaration-index l.declarations))) l.name;
  few : l.number ≤ l.declaration-index;
}
