use Rattle.instance_records.proofs.Covered.{put_one, put_holds}
use Rattle.instance_records.proofs.NodeNotes.{on_ok}
use Rattle.instance_records.proofs.spans.put_one.Goals as goal

pub returns : goal.returns
returns c = record {
  kept = on_ok c.put_span.result (λ e note h. put_one c.args.spans.now.items c.put_span.new.spans.items c.new-span.result note e h) c.put_span.ensures.put;
  put = on_ok c.put_span.result (λ e. put_holds c.args.spans.now.items c.put_span.new.spans.items c.new-span.result c.args.reading.now c.new-span.ensures.span e) c.put_span.ensures.put;
}
