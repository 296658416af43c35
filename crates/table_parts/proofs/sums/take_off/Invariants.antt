use Rattle.std.proofs.Common.{◌≡◌, take}
use Rattle.table_parts.specs.Sums.{taken}
use Rattle.table_parts.proofs.sums.take_off.Given as goal

abbrev pub invariant-loop-column : goal.invariant-loop-column
invariant-loop-column l = l.sums.items ≡ taken l.fn.sums.items (take l.column l.values)
