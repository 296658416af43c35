use Rattle.std.proofs.Common.{◌≡◌, map, take}
use Rattle.numbered_runs.specs.Named.{line}
use Rattle.stepped_runs.specs.Runs.{line_of}
use Rattle.worker_core.proofs.strands.lines_of.Given as goal

abbrev pub invariant-loop-i : goal.invariant-loop-i
invariant-loop-i g l = map line l.lines.items ≡ map line_of (take l.i l.pieces)
