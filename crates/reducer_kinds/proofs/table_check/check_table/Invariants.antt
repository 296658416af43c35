use Rattle.std.proofs.Common.{ℕ, ◌<◌}
use Rattle.monoid_laws.specs.Tables.{KeepsUnit, Holds}
use Rattle.reducer_kinds.proofs.table_check.check_table.Given as goal

abbrev pub invariant-loop-a : goal.invariant-loop-a
invariant-loop-a l = record { unit : (x : ℕ) → x < l.table.size → KeepsUnit l.table x; triples : (x y z : ℕ) → x < l.a → y < l.table.size → z < l.table.size → Holds l.table x y z }
