use Rattle.std.proofs.Common.{◌≡◌, ◌<◌, ◌≤◌, ◌-◌, ℕ, List, Some, length}
use Rattle.std.specs.Prelude.{slice_get}
use Rattle.record_theory.specs.Record.{PlainRecord}
use Rattle.rerun_records.specs.Skips.{PlainSkip, PassBut}
use Rattle.rerun_records.proofs.skips.around.Given as goal

abbrev pub invariant-loop-number : goal.invariant-loop-number
invariant-loop-number l =
    (places : List ℕ) (records : List PlainRecord) (done : ℕ) → PassBut places records (record { done = done; skips = l.skips }) → (i : ℕ) (s : PlainSkip) → i < l.number → slice_get l.skips i ≡ Some s
    → s.first ≤ l.place → l.place < s.until → ⊥

abbrev pub decreases-loop-number : goal.decreases-loop-number
decreases-loop-number l = length l.skips - l.number
