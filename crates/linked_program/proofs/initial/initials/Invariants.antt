use Rattle.std.proofs.Common.{◌≡◌, ◌++◌, ◌≤◌, map, drop}
use Rattle.meaning.specs.TreeView.{decl}
use Rattle.meaning.specs.Statements.{reducers}
use Rattle.linked_program.specs.Initials.{plain_initial, initials_from, initials_of}
use Rattle.linked_program.proofs.initial.initials.Given as goal

abbrev pub invariant-loop-declaration : goal.invariant-loop-declaration
invariant-loop-declaration l = record {
  same : initials_of (map decl l.declarations) ≡ map plain_initial l.made.items ++ initials_from l.number (reducers (map decl (drop l.declaration-index l.declarations)));
  few : l.number ≤ l.declaration-index;
}
