use Rattle.std.proofs.Common.{◌≡◌, drop}
use Rattle.worker_core.specs.Strands.{held_from}
use Rattle.worker_core.proofs.strands.held_at.Given as goal

abbrev pub invariant-loop-number : goal.invariant-loop-number
invariant-loop-number g l = held_from l.worker l.number (drop l.number l.pieces) ≡ held_from l.worker 0 l.pieces
