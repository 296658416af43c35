use Rattle.std.proofs.Common.{◌-◌, [], length}
use Rattle.rerun_records.specs.Skips.{PassBut}
use Rattle.rerun_records.proofs.skips.add_all.Given as goal

abbrev pub invariant-loop-alloc : goal.invariant-loop-alloc
invariant-loop-alloc l = PassBut [] l.list l.skips

abbrev pub decreases-loop-alloc : goal.decreases-loop-alloc
decreases-loop-alloc l = length l.list - l.skips.done
