use Rattle.instance_records.proofs.MoreRows.{full_there}
use Rattle.instance_records.proofs.full.Full.has.Goals as goal

pub returns : goal.returns
returns c = record {
  has = λ e notes h.
      let row = c.if-not-has_row.false in
      full_there notes c.args.self.now c.args.change.now c.args.first c.args.end (c.has_row.ensures.table row) (c.has_row.ensures.low row) (c.has_row.ensures.until row) (c.has_columns.ensures.first e)
      (c.has_columns.ensures.end e) h;
}
