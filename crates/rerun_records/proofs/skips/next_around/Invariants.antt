use Rattle.std.proofs.Common.{◌≤◌, ◌-◌, length}
use Rattle.rerun_records.proofs.skips.next_around.Given as goal

abbrev pub invariant-loop-next : goal.invariant-loop-next
invariant-loop-next l = record {
  from : l.place ≤ l.next;
  until : l.place ≤ length l.list → l.next ≤ length l.list;
}

abbrev pub decreases-loop-next : goal.decreases-loop-next
decreases-loop-next l = length l.list - l.next
