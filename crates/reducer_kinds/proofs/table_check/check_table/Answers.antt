use Rattle.std.proofs.Common.{ℕ, ◌<◌, below_more}
use Rattle.monoid_laws.specs.Tables.{Holds}
use Rattle.reducer_kinds.proofs.table_check.check_table.Goals as goal

pub loop-a-preserved : goal.loop-a-preserved
loop-a-preserved c = record {
  unit = c.loop-a.invariant.unit;
  triples = λ x y z h j k.
      below_more (λ x. (y z : ℕ) → y < c.args.table.now.size → z < c.args.table.now.size → Holds c.args.table.now x y z) c.loop-a.a (λ x h y z j k. c.loop-a.invariant.triples x y z h j k) c.in_default-failing_second.ensures x h y z j k;
}
