use Rattle.std.proofs.Common.{drop, map}
use Rattle.evaluation.specs.Short.{note_of}
use Rattle.rerun_records.specs.Settled.{AreReadIn}
use Rattle.rerun_records.proofs.settling.have_near.Given as goal

abbrev pub invariant-loop-cell : goal.invariant-loop-cell
invariant-loop-cell l = AreReadIn (map note_of (drop l.cell-index l.cells)) (map note_of l.own) → AreReadIn (map note_of l.cells) (map note_of l.own)
