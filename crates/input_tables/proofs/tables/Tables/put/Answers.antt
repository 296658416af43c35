use Rattle.std.proofs.Common.{w64}
use Rattle.std.proofs.lemmas.Int.{to_z-of_z}
use Rattle.input_tables.proofs.tables.Tables.put.Goals as goal

pub returns-in-Err-clause-refused : goal.returns-in-Err-clause-refused
returns-in-Err-clause-refused c = λ program lines.
    rw (to_z-of_z w64 _ c.ranges.row) at (c.in-Err.ensures.refused c.args.table.now c.in-Some.ensures.number program lines)
