use Rattle.std.proofs.Common.{ℕ, ◌<◌}
use Rattle.monoid_laws.specs.Tables.{Holds}
use Rattle.reducer_kinds.proofs.table_check.failing_third.Given as goal

abbrev pub invariant-loop-c : goal.invariant-loop-c
invariant-loop-c l = (z : ℕ) → z < l.c → Holds l.table l.a l.b z
