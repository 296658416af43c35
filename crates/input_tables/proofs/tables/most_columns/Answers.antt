use Rattle.std.proofs.Common.{arith}
use Rattle.input_tables.proofs.Notes.{widest_is}
use Rattle.input_tables.proofs.tables.most_columns.Goals as goal

pub returns : goal.returns
returns c = record { most = widest_is c.args.tables.now c.loop-number.number c.loop-number.most (omega (arith, c.loop-number-test.false, c.loop-number.invariant.end)) c.loop-number.invariant.most }
