use Rattle.std.proofs.Common.{◌≡◌, drop}
use Rattle.instance_records.specs.Spans.{hold_rows}
use Rattle.instance_records.proofs.spans.hold_rows.Given as goal

abbrev pub invariant-loop-other : goal.invariant-loop-other
invariant-loop-other l = hold_rows l.spans l.others ≡ hold_rows l.spans (drop l.other-index l.others)
