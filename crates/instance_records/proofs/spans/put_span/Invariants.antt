use Rattle.std.proofs.Common.{◌≡◌, ◌++◌, take, drop, length}
use Rattle.instance_records.specs.Spans.{put_span}
use Rattle.instance_records.proofs.spans.put_span.Given as goal

abbrev pub invariant-loop-place : goal.invariant-loop-place
invariant-loop-place l = record {
  same : l.spans.items ≡ l.fn.spans.items;
  end : l.place-end ≡ length l.spans.items;
  put : take l.place l.spans.items ++ put_span (drop l.place l.spans.items) l.span ≡ put_span l.fn.spans.items l.span;
}
