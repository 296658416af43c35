use Rattle.std.proofs.Common.{ℕ, ◌<◌}
use Rattle.monoid_laws.specs.Tables.{Holds}
use Rattle.reducer_kinds.proofs.table_check.failing_second.Given as goal

abbrev pub invariant-loop-b : goal.invariant-loop-b
invariant-loop-b l = (y z : ℕ) → y < l.b → z < l.table.size → Holds l.table l.a y z
