use Rattle.std.proofs.Common.{◌≡◌, drop}
use Rattle.instance_records.specs.Parts.{entries_in}
use Rattle.gathered_records.specs.Summing.{put_entries}
use Rattle.gathered_records.proofs.sums.add_each.Given as goal

abbrev pub invariant-loop-entry : goal.invariant-loop-entry
invariant-loop-entry l = put_entries (entries_in l.entries) (drop l.entry-index l.more) ≡ put_entries (entries_in l.fn.entries) l.more
