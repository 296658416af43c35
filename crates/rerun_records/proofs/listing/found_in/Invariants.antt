use Rattle.std.proofs.Common.{◌≡◌, ◌≤◌, ◌<◌, ◌-◌, length, get_or}
use Rattle.record_theory.specs.Record.{NoneFrom}
use Rattle.rerun_records.proofs.listing.found_in.Given as goal

abbrev pub invariant-loop-end : goal.invariant-loop-end
invariant-loop-end l = record {
  within : l.end ≤ length l.list;
  last : 0 < l.end → get_or l.places.numbers (l.end - 1) 0 ≡ l.number;
  past : NoneFrom l.procedure l.arguments l.list l.end;
}

abbrev pub decreases-loop-end : goal.decreases-loop-end
decreases-loop-end l = l.end
