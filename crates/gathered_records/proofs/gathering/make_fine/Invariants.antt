use Rattle.std.proofs.Common.{◌≡◌}
use Rattle.gathered_records.proofs.gathering.make_fine.Given as goal

abbrev pub invariant-loop-place : goal.invariant-loop-place
invariant-loop-place l = l.records ≡ l.fn.records
