use Rattle.instance_records.proofs.Covered.{two_rows}
use Rattle.instance_records.proofs.pairs.are_of_rows.Goals as goal

pub returns : goal.returns
returns c = record {
  of = λ e. two_rows _ c.args.pair.now c.args.others.now c.told-pair c.told-others (c.is_of_row.ensures.of c.if-not-is_of_row.false) (c.is_of_row-2.ensures.of e);
}
