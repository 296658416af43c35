use Rattle.std.proofs.Common.{◌≡◌, ◌*◌, ◌/◌, ◌-◌, ℕ, List, length}
use Rattle.record_theory.specs.Record.{PlainRecord}
use Rattle.rerun_records.specs.Covers.{CoversLevel}
use Rattle.rerun_records.proofs.covers.join_all.Given as goal

abbrev pub invariant-loop-alloc : goal.invariant-loop-alloc
invariant-loop-alloc l =
    (list : List PlainRecord) (width wider : ℕ) → wider ≡ width * 32 → CoversLevel list (record { width = width; hulls = l.hulls })
    → CoversLevel list (record { width = wider; hulls = l.fn.wide.items }) → CoversLevel list (record { width = wider; hulls = l.wide.items })

abbrev pub decreases-loop-alloc : goal.decreases-loop-alloc
decreases-loop-alloc l = length l.hulls / 32 - length l.wide.items
