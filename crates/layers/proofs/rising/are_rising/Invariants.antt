use Rattle.std.proofs.Common.{◌≡◌, ◌≤◌, take, drop, map}
use Rattle.std.specs.Prelude.{All}
use Rattle.evaluation.specs.Short.{note_of}
use Rattle.positions.specs.Values.{once, once_behind}
use Rattle.layers.specs.Ranks.{rank_of}
use Rattle.layers.proofs.rising.are_rising.Given as goal

abbrev pub invariant-loop-reading : goal.invariant-loop-reading
invariant-loop-reading l =
    All (λ n. rank_of n ≤ l.last) (map note_of (take l.reading-index l.found))
    × (once_behind (map note_of (take l.reading-index l.found)) (map note_of (drop l.reading-index l.found)) ≡ once (map note_of l.found))
