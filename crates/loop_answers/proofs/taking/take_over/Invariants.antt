use Rattle.std.proofs.Common.{◌≡◌, drop}
use Rattle.answered_loops.specs.Answered.{absorbed, answered_more}
use Rattle.loop_answers.specs.Batches.{sums_of, instances_in}
use Rattle.loop_answers.proofs.taking.take_over.Given as goal

abbrev pub invariant-loop-batch : goal.invariant-loop-batch
invariant-loop-batch g l = record {
  kinds : l.layer.kinds ≡ l.fn.layer.kinds;
  counted : l.tally ≡ record l.fn.tally { reused = l.tally.reused };
  answered : answered_more (instances_in (drop l.batch-index l.found)) l.tally ≡ answered_more (instances_in l.found) l.fn.tally;
  absorbed : absorbed l.depth (drop l.batch-index (sums_of l.found)) l.layer ≡ absorbed l.depth (sums_of l.found) l.fn.layer;
}
