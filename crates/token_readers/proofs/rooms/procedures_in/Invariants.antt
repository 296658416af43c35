use Rattle.std.proofs.Common.{◌≡◌, ◌+◌, ◌≤◌, map, drop}
use Rattle.meaning.specs.TreeView.{decl}
use Rattle.token_readers.specs.Rooms.{procedures_in}
use Rattle.token_readers.proofs.rooms.procedures_in.Given as goal

abbrev pub invariant-loop-declaration : goal.invariant-loop-declaration
invariant-loop-declaration l = record {
  counted : l.count + procedures_in (map decl (drop l.declaration-index l.declarations)) ≡ procedures_in (map decl l.declarations);
  few : l.count ≤ l.declaration-index;
}
