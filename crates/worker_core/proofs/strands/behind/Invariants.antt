use Rattle.std.proofs.Common.{◌≡◌, drop}
use Rattle.worker_core.specs.Strands.{behind_from}
use Rattle.worker_core.proofs.strands.behind.Given as goal

abbrev pub invariant-loop-number : goal.invariant-loop-number
invariant-loop-number g l = behind_from l.name l.number (drop l.number l.pieces) ≡ behind_from l.name 0 l.pieces
