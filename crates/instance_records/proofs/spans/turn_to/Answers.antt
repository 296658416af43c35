use Rattle.std.proofs.Common.{ap, ◌∙◌}
use Rattle.instance_records.specs.Spans.{put_span}
use Rattle.instance_records.proofs.Runs.{put_joined}
use Rattle.instance_records.proofs.spans.turn_to.Goals as goal

pub returns-then-span-last : goal.returns-then-span-last
returns-then-span-last c =
    let xs = c.args.spans.now.items in
    record {
      joined =
          ap (put_span xs) c.joined.ensures.joined
          ∙ put_joined xs c.args.run.now c.new-span.result c.if-span-last.true
          ∙ ap (put_span (put_span xs c.args.run.now)) c.new-span.ensures.span;
    }
