use Rattle.std.proofs.Common.{◌≡◌, take, drop, map}
use Rattle.evaluation.specs.Short.{note_of}
use Rattle.positions.specs.Values.{once, once_behind}
use Rattle.layers.proofs.recording.are_distinct.Given as goal

abbrev pub invariant-loop-i : goal.invariant-loop-i
invariant-loop-i l = once_behind (map note_of (take l.i l.found)) (map note_of (drop l.i l.found)) ≡ once (map note_of l.found)
