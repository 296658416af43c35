use Rattle.instance_records.proofs.MoreRows.{second_row}
use Rattle.instance_records.proofs.lines.Lines.begin.Goals as goal

pub returns-then-is_behind : goal.returns-then-is_behind
returns-then-is_behind c =
    let behind = c.if-is_behind.true in
    record {
      lines = λ notes there h.
          second_row notes c.args.self.now h c.args.table c.args.row c.args.column c.if-self.false c.if-self-le-MOST.true (c.is_behind.ensures.row behind) (c.is_behind.ensures.column behind)
          (c.is_behind.ensures.table behind) there;
    }
