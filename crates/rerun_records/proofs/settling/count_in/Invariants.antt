use Rattle.std.proofs.Common.{◌≤◌, ◌+◌, drop, length, map}
use Rattle.evaluation.specs.Short.{note_of}
use Rattle.rerun_records.proofs.Settled.{CountedTo}
use Rattle.rerun_records.proofs.settling.count_in.Given as goal

abbrev pub invariant-loop-note : goal.invariant-loop-note
invariant-loop-note l = record {
  counted : CountedTo (map note_of l.cells) l.notes l.note-index l.count;
  few : l.count + length (drop l.note-index l.notes) ≤ length l.notes;
}
