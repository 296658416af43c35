use Rattle.std.proofs.Common.{pos, false, ap, ◌∙◌}
use Rattle.instance_records.specs.Spans.{span_of, put_span}
use Rattle.instance_records.proofs.Runs.{made, put_row}
use Rattle.instance_records.proofs.spans.join_on.Goals as goal

pub returns-in-Cell : goal.returns-in-Cell
returns-in-Cell c =
    let xs = c.args.spans.now.items in
    let row = pos c.in-Cell.row in
    record {
      joined =
          ap (put_span xs) c.put_row.ensures.joined
          ∙ put_row xs c.args.run.now row (span_of c.args.reading.now) (ap span_of c.in-Cell.is ∙ ap (λ t. made t false row row) c.if-table-run.true);
    }

pub returns-in-Has : goal.returns-in-Has
returns-in-Has c =
    let xs = c.args.spans.now.items in
    let row = c.in-Has.row in
    record {
      joined =
          ap (put_span xs) c.put_asked.ensures.joined
          ∙ put_row xs c.args.run.now row (span_of c.args.reading.now) (ap span_of c.in-Has.is ∙ ap (λ t. made t false row row) c.if-table-run-2.true);
    }
