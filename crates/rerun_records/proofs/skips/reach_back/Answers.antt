use Rattle.std.proofs.Common.{arith}
use Rattle.rerun_records.proofs.Passing.{reaches_none}
use Rattle.rerun_records.proofs.skips.reach_back.Goals as goal

pub loop-first-init : goal.loop-first-init
loop-first-init c = record {
  few = omega arith;
  reaches = reaches_none c.args.list.now c.args.skips.now c.args.hull.now c.args.place c.requires.held;
}

pub loop-first-preserved : goal.loop-first-preserved
loop-first-preserved c = record { few = c.in-Some.ensures.reaches.few; reaches = c.in-Some.ensures.reaches }
