use Rattle.std.proofs.Common.{◌≡◌, ◌+◌, ◌≤◌, drop}
use Rattle.record_theory.specs.Same.{same_note}
use Rattle.record_theory.specs.Counts.{how_many}
use Rattle.instance_records.specs.Readings.{node_notes}
use Rattle.instance_records.proofs.narrowing.how_many_in.Given as goal

abbrev pub invariant-loop-note : goal.invariant-loop-note
invariant-loop-note l = record {
  counted : l.count + how_many same_note (drop l.note-index l.notes) (node_notes l.node) ≡ how_many same_note l.notes (node_notes l.node);
  few : l.count ≤ l.note-index;
}
