use Rattle.std.proofs.Common.{◌≡◌, ◌+◌, ◌≤◌, drop, map}
use Rattle.evaluation.specs.Short.{note_of}
use Rattle.record_theory.specs.Same.{same_note}
use Rattle.record_theory.specs.Counts.{how_many}
use Rattle.instance_records.proofs.narrowing.how_many_own.Given as goal

abbrev pub invariant-loop-note : goal.invariant-loop-note
invariant-loop-note l = record {
  counted : l.count + how_many same_note (drop l.note-index l.notes) (map note_of l.own) ≡ how_many same_note l.notes (map note_of l.own);
  few : l.count ≤ l.note-index;
}
