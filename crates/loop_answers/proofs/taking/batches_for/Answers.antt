use Rattle.std.proofs.Common.{rules, ◌≡◌, ◌+◌, ◌<◌, length}
use Rattle.rerun_records.specs.declared.batch.Batch.{Batch}
use Rattle.loop_answers.proofs.Batches.{first_more}
use Rattle.loop_answers.proofs.taking.batches_for.Goals as goal

pub loop-n-preserved : goal.loop-n-preserved
loop-n-preserved c =
    let b : Batch = c.index-found-n.result in
    let within : c.loop-n.n < length c.args.found.now = search rules in
    let left : c.loop-n.left ≡ c.in-Some.rest + b.count = search rules in
    first_more c.args.found.now c.loop-n.n b c.loop-n.left c.in-Some.rest c.args.count within c.index-found-n.is left c.loop-n.invariant
