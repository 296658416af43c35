use Rattle.std.proofs.Common.{◌≡◌, map, drop}
use Rattle.evaluation.specs.Short.{note_of}
use Rattle.instance_records.specs.Full.{AreLines}
use Rattle.instance_records.specs.Spans.{span_of, put_span, put_spans}
use Rattle.instance_records.proofs.lines.put_lines_from.Given as goal

abbrev pub invariant-loop-reading : goal.invariant-loop-reading
invariant-loop-reading l = record {
  put : put_spans (put_span l.spans.items l.run) (map span_of (drop l.reading-index l.own)) ≡ put_spans l.fn.spans.items (map span_of l.fn.own);
  lines : AreLines (map note_of l.own) l.lines;
}
