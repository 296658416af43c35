use Rattle.std.proofs.Common.{pos}
use Rattle.instance_records.proofs.MoreRows.{held_row}
use Rattle.instance_records.proofs.spans.Span.holds.Goals as goal

pub returns : goal.returns
returns c =
    let there = c.if-not-is_around.false in
    record { holds = λ _ spans. held_row spans c.args.self.now c.args.table (pos c.args.row) (c.is_around.ensures.table there) (c.is_around.ensures.low there) (c.is_around.ensures.high there) }
