use Rattle.std.proofs.Common.{◌-◌}
use Rattle.std.specs.Vec.{vec_len}
use Rattle.input_tables.proofs.Totals.{zeros_total}
use Rattle.input_tables.proofs.table.zeros.Goals as goal

pub returns-clause-zeros : goal.returns-clause-zeros
returns-clause-zeros c =
    let made = c.in_ok-sums.sums in
    rw c.in_ok-resize.ensures.items (zeros_total c.args.columns (c.args.columns - vec_len made) made.items c.in_ok-sums.ensures.items)
