use Rattle.std.proofs.Common.{◌≡◌, ◌<◌, ◌≤◌, ◌-◌, ℕ, List, Some, length}
use Rattle.std.specs.Prelude.{slice_get}
use Rattle.record_theory.specs.Record.{PlainRecord}
use Rattle.rerun_records.specs.Skips.{PlainSkip, PassBut}
use Rattle.rerun_records.proofs.skips.first_behind.Given as goal

abbrev pub invariant-loop-low : goal.invariant-loop-low
invariant-loop-low l = record {
  order : l.low ≤ l.high;
  within : l.high ≤ length l.skips;
  before :
      (places : List ℕ) (records : List PlainRecord) (done : ℕ) → PassBut places records (record { done = done; skips = l.skips }) → (i : ℕ) (s : PlainSkip) → i < l.low → slice_get l.skips i ≡ Some s
      → s.until ≤ l.place;
}

abbrev pub decreases-loop-low : goal.decreases-loop-low
decreases-loop-low l = l.high - l.low
