use Rattle.std.proofs.Common.{◌≡◌, drop}
use Rattle.instance_records.specs.Spans.{is_touched}
use Rattle.instance_records.proofs.spans.are_touched.Given as goal

abbrev pub invariant-loop-span : goal.invariant-loop-span
invariant-loop-span l = is_touched l.spans l.changes ≡ is_touched (drop l.span-index l.spans) l.changes
