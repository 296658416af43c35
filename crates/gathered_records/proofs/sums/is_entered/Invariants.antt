use Rattle.std.proofs.Common.{◌≡◌, drop}
use Rattle.std.specs.List.{list_any}
use Rattle.gathered_records.specs.Summing.{same_entry}
use Rattle.gathered_records.proofs.sums.is_entered.Given as goal

abbrev pub invariant-loop-other : goal.invariant-loop-other
invariant-loop-other l = list_any (same_entry l.entry) l.entries ≡ list_any (same_entry l.entry) (drop l.other-index l.entries)
