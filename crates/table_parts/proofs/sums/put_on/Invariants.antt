use Rattle.std.proofs.Common.{◌≡◌, take}
use Rattle.table_parts.specs.Sums.{added}
use Rattle.table_parts.proofs.sums.put_on.Given as goal

abbrev pub invariant-loop-column : goal.invariant-loop-column
invariant-loop-column l = l.sums.items ≡ added l.fn.sums.items (take l.column l.values)
