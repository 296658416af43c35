use Rattle.std.proofs.Common.{◌≡◌, drop}
use Rattle.std.specs.List.{list_any}
use Rattle.instance_records.specs.Readings.{is_a_sum}
use Rattle.instance_records.proofs.touching.are_sums.Given as goal

abbrev pub invariant-loop-reading : goal.invariant-loop-reading
invariant-loop-reading l = list_any is_a_sum l.own ≡ list_any is_a_sum (drop l.reading-index l.own)
