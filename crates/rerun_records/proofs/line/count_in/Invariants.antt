use Rattle.std.proofs.Common.{◌≤◌, ◌+◌, drop, length}
use Rattle.rerun_records.proofs.HeldCells.{CountedTo}
use Rattle.rerun_records.proofs.line.count_in.Given as goal

abbrev pub invariant-loop-note : goal.invariant-loop-note
invariant-loop-note l = record {
  counted : CountedTo l.change l.first l.end l.notes l.note-index l.count;
  few : l.count + length (drop l.note-index l.notes) ≤ length l.notes;
}
