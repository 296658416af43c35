use Rattle.std.proofs.Common.{◌≡◌, ◌++◌, drop, map}
use Rattle.record_theory.specs.Record.{touched}
use Rattle.instance_records.specs.Gifts.{given_by}
use Rattle.layers.specs.Gatherings.{gathered_in}
use Rattle.positions.specs.Tallies.{touched_from}
use Rattle.layers.proofs.recording.contribution_of_many.Given as goal

abbrev pub invariant-loop-reducer : goal.invariant-loop-reducer
invariant-loop-reducer g l =
    map touched (map given_by (gathered_in l.values)) ++ touched_from l.reducer (drop l.reducer l.hypermap.kinds) (drop l.reducer l.hypermap.worths) ≡ touched_from 0 l.hypermap.kinds l.hypermap.worths
