use Rattle.std.proofs.Common.{length, ◌-◌, ◌*◌}
use Rattle.rerun_records.specs.Covers.{CoversLevel}
use Rattle.rerun_records.proofs.covers.add_all.Given as goal

abbrev pub invariant-loop-alloc : goal.invariant-loop-alloc
invariant-loop-alloc l = CoversLevel l.list (record { width = l.width; hulls = l.hulls.items })

abbrev pub decreases-loop-alloc : goal.decreases-loop-alloc
decreases-loop-alloc l = length l.list - length l.hulls.items * l.width
