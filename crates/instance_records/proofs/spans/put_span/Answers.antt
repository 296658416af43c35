use Rattle.std.proofs.Common.{ap, ◌∙◌, arith}
use Rattle.std.specs.Prelude.{slice_set}
use Rattle.instance_records.proofs.Covered.{found_is}
use Rattle.instance_records.proofs.spans.put_span.Goals as goal

pub returns-then-index-span : goal.returns-then-index-span
returns-then-index-span c =
    let l = c.loop-place in
    record {
      put =
          ap (slice_set l.spans.items l.place) c.joined.ensures.joined
          ∙ found_is l.spans.items l.place _ _ c.args.span.now (omega (arith, c.loop-place-test.true, l.invariant.end)) c.index-then-index-span.ensures c.index.ensures c.if-index-span.true
          ∙ l.invariant.put;
    }
