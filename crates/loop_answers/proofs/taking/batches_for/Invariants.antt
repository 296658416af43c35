use Rattle.std.proofs.Common.{◌≡◌, ◌+◌, take}
use Rattle.loop_answers.specs.Batches.{instances_in}
use Rattle.loop_answers.proofs.taking.batches_for.Given as goal

abbrev pub invariant-loop-n : goal.invariant-loop-n
invariant-loop-n l = l.left + instances_in (take l.n l.found) ≡ l.count
