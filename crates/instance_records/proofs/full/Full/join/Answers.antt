use Rattle.instance_records.proofs.MoreRows.{joined_full}
use Rattle.instance_records.proofs.full.Full.join.Goals as goal

pub returns-then-is_before : goal.returns-then-is_before
returns-then-is_before c = record {
  full = λ notes g h.
      joined_full notes c.args.self.now c.args.other.now (c.is_before.ensures.until c.if-is_before.true) (c.is_before.ensures.table c.if-is_before.true) (c.is_before.ensures.first c.if-is_before.true)
      (c.is_before.ensures.end c.if-is_before.true) g h;
}
