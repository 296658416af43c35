use Rattle.std.proofs.Common.{ℕ, ◌<◌}
use Rattle.monoid_laws.specs.Tables.{KeepsUnit}
use Rattle.reducer_kinds.proofs.table_check.changed_by_unit.Given as goal

abbrev pub invariant-loop-a : goal.invariant-loop-a
invariant-loop-a l = (x : ℕ) → x < l.a → KeepsUnit l.table x
