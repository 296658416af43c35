use Rattle.std.proofs.Common.{◌≡◌, true, ap, sym, ◌∙◌, arith}
use Rattle.meaning.specs.Every.{every}
use Rattle.instance_records.specs.Spans.{is_covered_by}
use Rattle.instance_records.proofs.Among.{one_more_held}
use Rattle.instance_records.proofs.hull.Hull.of.Goals as goal

pub loop-record-preserved : goal.loop-record-preserved
loop-record-preserved c =
    let old = c.loop-record.spans.items in
    let new = c.put_rows.new.spans.items in
    let put : every (is_covered_by new) c.record-item.result.reads ≡ true = ap (every (is_covered_by new)) (sym c.reads.ensures.reads) ∙ c.in_ok-put_rows.ensures.put in
    one_more_held c.args.records.now c.loop-record.record-index c.record-item.result old new (omega (arith, c.loop-record-test.true)) c.record-item.is c.in_ok-put_rows.ensures.kept put c.loop-record.invariant
