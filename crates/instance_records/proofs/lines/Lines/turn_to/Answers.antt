use Rattle.instance_records.proofs.MoreRows.{more_rows}
use Rattle.instance_records.proofs.lines.Lines.turn_to.Goals as goal

pub returns-then-is_behind : goal.returns-then-is_behind
returns-then-is_behind c =
    let behind = c.if-is_behind.true in
    record {
      lines = λ notes there h.
          more_rows notes c.args.self.now h c.args.table c.args.row c.args.column c.if-self.true (c.is_behind.ensures.row behind) (c.is_behind.ensures.column behind) (c.is_behind.ensures.table behind) there;
    }
