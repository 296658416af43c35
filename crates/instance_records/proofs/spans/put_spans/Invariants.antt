use Rattle.std.proofs.Common.{◌≡◌, drop}
use Rattle.instance_records.specs.Spans.{put_spans}
use Rattle.instance_records.proofs.spans.put_spans.Given as goal

abbrev pub invariant-loop-span : goal.invariant-loop-span
invariant-loop-span l = put_spans l.spans.items (drop l.span-index l.more) ≡ put_spans l.fn.spans.items l.more
