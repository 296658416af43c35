use Rattle.std.proofs.Common.{◌≡◌, map, drop}
use Rattle.meaning.specs.TreeView.{decl}
use Rattle.meaning.specs.Edits.{revised}
use Rattle.linked_program.specs.Checked.{revised_of, numbers_in}
use Rattle.spawn_checker.specs.Renumbered.{behind}
use Rattle.spawn_checker.proofs.renumbering.next_revisions.Given as goal

abbrev pub invariant-loop-declaration : goal.invariant-loop-declaration
invariant-loop-declaration l =
    revised (revised_of l.old) (map decl l.declarations) l.old.counter ≡ behind (numbers_in l.revisions.items) (revised (revised_of l.old) (map decl (drop l.declaration-index l.declarations)) l.counter)
