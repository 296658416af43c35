use Rattle.std.proofs.Common.{ℕ, ◌<◌, below_more}
use Rattle.monoid_laws.specs.Tables.{Holds}
use Rattle.reducer_kinds.proofs.table_check.failing_second.Goals as goal

pub loop-b-preserved : goal.loop-b-preserved
loop-b-preserved c = λ y z h k.
    below_more (λ y. (z : ℕ) → z < c.args.table.now.size → Holds c.args.table.now c.args.a y z) c.loop-b.b (λ y h z k. c.loop-b.invariant y z h k) c.in_default.ensures y h z k
