use Rattle.std.proofs.Common.{◌≡◌, ◌<◌, map, drop, length, None, IfSome}
use Rattle.meaning.specs.TreeView.{decl}
use Rattle.program_edits.specs.Putting.{last_place}
use Rattle.program_edits.proofs.putting.last_place.Given as goal

abbrev pub invariant-loop-place : goal.invariant-loop-place
invariant-loop-place l = record {
  exact : last_place l.place l.found l.name (map decl (drop l.place l.declarations)) ≡ last_place 0 None l.name (map decl l.declarations);
  there : IfSome l.found (λ n. n < length l.declarations);
}
