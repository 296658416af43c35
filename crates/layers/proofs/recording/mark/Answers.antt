use Rattle.std.proofs.Common.{rules}
use Rattle.layers.proofs.Marks.{inserted_is}
use Rattle.layers.proofs.recording.mark.Goals as goal

pub returns-in-Ok : goal.returns-in-Ok
returns-in-Ok c = search (rules, inserted_is c.args.seen.now.keys c.args.note)
