use Rattle.std.proofs.Common.{◌≡◌, ◌≤◌, map, drop}
use Rattle.meaning.specs.TreeView.{decl}
use Rattle.meaning.specs.Edits.{revised}
use Rattle.linked_program.specs.Checked.{numbers_in, nothing}
use Rattle.spawn_checker.specs.Renumbered.{behind}
use Rattle.spawn_checker.proofs.revisions.first_revisions.Given as goal

abbrev pub invariant-loop-declaration : goal.invariant-loop-declaration
invariant-loop-declaration l = record {
  numbers : revised nothing (map decl l.declarations) 0 ≡ behind (numbers_in l.revisions.items) (revised nothing (map decl (drop l.declaration-index l.declarations)) l.counter);
  few : l.counter ≤ l.declaration-index;
}
