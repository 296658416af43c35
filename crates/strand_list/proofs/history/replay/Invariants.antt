use Rattle.std.proofs.Common.{◌≡◌, take, Some}
use Rattle.meaning.specs.Strands.{replayed}
use Rattle.numbered_runs.specs.Named.{history}
use Rattle.strand_list.proofs.history.replay.Given as goal

abbrev pub invariant-loop-n : goal.invariant-loop-n
invariant-loop-n l = replayed (history (take l.n l.steps)) ≡ Some l.page
