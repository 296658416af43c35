use Rattle.std.proofs.Common.{◌≡◌, ◌++◌, drop}
use Rattle.std.specs.List.{flat_map}
use Rattle.instance_records.specs.Readings.{shared_notes}
use Rattle.instance_records.proofs.walks.+putting.Given as goal

abbrev pub invariant-put_parts-loop-part : goal.invariant-put_parts-loop-part
invariant-put_parts-loop-part l = l.notes.items ++ flat_map shared_notes (drop l.part-index l.parts) ≡ l.fn.notes.items ++ flat_map shared_notes l.parts
