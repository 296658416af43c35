use Rattle.instance_records.proofs.MoreRows.{one_whole, last_whole}
use Rattle.instance_records.proofs.lines.Lines.finish.Goals as goal

pub returns-then-full-2 : goal.returns-then-full-2
returns-then-full-2 c = record { full = λ notes h. one_whole notes c.args.self.now h c.if-full-2.true c.if-self-gt-MOST.false }

pub returns : goal.returns
returns c = record { full = λ notes h. last_whole notes c.args.self.now h c.if-self-gt-MOST.false c.if-self-full.false }
