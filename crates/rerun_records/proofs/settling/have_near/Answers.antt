use Rattle.std.proofs.Common.{map}
use Rattle.evaluation.specs.Short.{note_of}
use Rattle.rerun_records.proofs.Settled.{still_read, all_read}
use Rattle.rerun_records.proofs.settling.have_near.Goals as goal

pub loop-cell-preserved : goal.loop-cell-preserved
loop-cell-preserved c =
    still_read (map note_of c.args.own.now) c.args.cells.now c.loop-cell.cell-index _ c.loop-cell-test.true (c.has_near.ensures.has c.if-not-has_near.false) c.loop-cell.invariant

pub returns : goal.returns
returns c = record { have = λ e. all_read (map note_of c.args.own.now) c.args.cells.now c.loop-cell.cell-index c.loop-cell-test.false c.loop-cell.invariant }
