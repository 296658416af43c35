use Rattle.std.proofs.Common.{◌≡◌}
use Rattle.gathered_records.proofs.gathering.gather_on.Given as goal

abbrev pub invariant-loop : goal.invariant-loop
invariant-loop l = l.records ≡ l.fn.records
