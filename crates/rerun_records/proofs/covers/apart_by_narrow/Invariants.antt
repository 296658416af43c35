use Rattle.std.proofs.Common.{◌≤◌, ◌*◌, List}
use Rattle.record_theory.specs.Record.{PlainRecord}
use Rattle.rerun_records.specs.Covers.{CoversLevel, AreApart}
use Rattle.rerun_records.proofs.covers.apart_by_narrow.Given as goal

abbrev pub invariant-loop-number : goal.invariant-loop-number
invariant-loop-number l = record {
  within : l.number * 32 ≤ l.end;
  apart : (records : List PlainRecord) → CoversLevel records (record { width = 32; hulls = l.hulls }) → AreApart records l.change (l.number * 32) l.end;
}

abbrev pub decreases-loop-number : goal.decreases-loop-number
decreases-loop-number l = l.number
