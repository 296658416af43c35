use Rattle.std.proofs.Common.{◌≡◌, drop, map}
use Rattle.evaluation.specs.Short.{note_of}
use Rattle.instance_records.specs.ShortLists.{items_in}
use Rattle.positions.specs.Values.{once, once_behind}
use Rattle.layers.proofs.recording.distinct_of_few.Given as goal

abbrev pub invariant-loop-reading : goal.invariant-loop-reading
invariant-loop-reading l = once_behind (map note_of (items_in l.seen)) (map note_of (drop l.reading-index l.found)) ≡ once (map note_of l.found)
