use Rattle.instance_records.proofs.Entered.{two_same}
use Rattle.instance_records.proofs.entries.are_same.Goals as goal

pub returns : goal.returns
returns c = record {
  same = λ e. two_same _ c.args.left.now c.args.right.now c.told-left c.told-right (c.is_same.ensures.same c.if-not-is_same.false) (c.is_same-2.ensures.same e);
}
