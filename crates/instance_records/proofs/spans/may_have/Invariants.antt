use Rattle.std.proofs.Common.{◌≡◌, drop}
use Rattle.instance_records.specs.Spans.{is_covered_by}
use Rattle.instance_records.proofs.spans.may_have.Given as goal

abbrev pub invariant-loop-span : goal.invariant-loop-span
invariant-loop-span l = is_covered_by l.spans l.note ≡ is_covered_by (drop l.span-index l.spans) l.note
