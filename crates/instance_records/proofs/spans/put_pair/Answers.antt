use Rattle.instance_records.proofs.Covered.{put_one, one_for_two, one_for_each}
use Rattle.instance_records.proofs.NodeNotes.{on_ok}
use Rattle.instance_records.proofs.spans.put_pair.Goals as goal

pub returns-then-is_same-clause-kept : goal.returns-then-is_same-clause-kept
returns-then-is_same-clause-kept c =
    on_ok c.put_span.result (λ e note h. put_one c.args.spans.now.items c.put_span.new.spans.items c.new-first.result note e h) c.put_span.ensures.put

pub returns-then-is_same-clause-put : goal.returns-then-is_same-clause-put
returns-then-is_same-clause-put c =
    on_ok c.put_span.result
    (λ e.
    one_for_two _ c.args.pair.now c.args.spans.now.items c.put_span.new.spans.items c.new-first.result c.new-second.result c.told-pair
    c.new-first.ensures.span c.new-second.ensures.span (c.is_same.ensures.same c.if-is_same.true) e)
    c.put_span.ensures.put

pub returns-clause-kept : goal.returns-clause-kept
returns-clause-kept c =
    on_ok c.put_span-3.result
    (λ e note h.
    put_one c.put_span-2.new.spans.items c.put_span-3.new.spans.items c.new-second.result note e
    (put_one c.args.spans.now.items c.put_span-2.new.spans.items c.new-first.result note c.in_ok-put_span.ensures.put h))
    c.put_span-3.ensures.put

pub returns-clause-put : goal.returns-clause-put
returns-clause-put c =
    on_ok c.put_span-3.result
    (λ e.
    one_for_each _ c.args.pair.now c.args.spans.now.items c.put_span-2.new.spans.items c.put_span-3.new.spans.items c.new-first.result c.new-second.result c.told-pair
    c.new-first.ensures.span c.new-second.ensures.span c.in_ok-put_span.ensures.put e)
    c.put_span-3.ensures.put
