use Rattle.std.proofs.Common.{ap, map, ◌∙◌}
use Rattle.instance_records.specs.declared.readings.Below.{out-Below}
use Rattle.instance_records.specs.Spans.{span_of, put_spans, spans_in}
use Rattle.instance_records.proofs.NodeNotes.{still_covered, alone_covered, all_covered, on_ok}
use Rattle.instance_records.proofs.below.put_node.Goals as goal

pub returns-in-None-clause-kept : goal.returns-in-None-clause-kept
returns-in-None-clause-kept c = still_covered c.args.spans.now.items c.put_read.new.spans.items (map span_of c.as_slice.result.now) c.in_ok-put_read.ensures.put

pub returns-in-None-clause-put : goal.returns-in-None-clause-put
returns-in-None-clause-put c =
    alone_covered c.args.node.now c.args.spans.now.items c.put_read.new.spans.items
    (c.in_ok-put_read.ensures.put ∙ ap (λ rs. put_spans c.args.spans.now.items (map span_of rs)) c.as_slice.ensures.items)
    c.in-None.is

pub returns-in-Some-clause-kept : goal.returns-in-Some-clause-kept
returns-in-Some-clause-kept c =
    on_ok c.put_spans.result
    (λ e note h. still_covered c.put_read.new.spans.items c.put_spans.new.spans.items c.as_slice-in-Some.result.now e note (still_covered c.args.spans.now.items c.put_read.new.spans.items (map span_of c.as_slice.result.now) c.in_ok-put_read.ensures.put note h))
    c.put_spans.ensures.put

pub returns-in-Some-clause-put : goal.returns-in-Some-clause-put
returns-in-Some-clause-put c =
    on_ok c.put_spans.result
    (λ e.
    all_covered c.args.node.now c.args.spans.now.items c.put_read.new.spans.items c.put_spans.new.spans.items c.in-Some.below c.in-Some.is c.requires.covered
    (c.in_ok-put_read.ensures.put ∙ ap (λ rs. put_spans c.args.spans.now.items (map span_of rs)) c.as_slice.ensures.items)
    (e ∙ ap (put_spans c.put_read.new.spans.items) (c.as_slice-in-Some.ensures.spans ∙ ap (λ b. spans_in (out-Below b).spans) c.deref.ensures)))
    c.put_spans.ensures.put
