use Rattle.std.proofs.Common.{◌+◌, List, ap, ◌∙◌, subst, sym}
use Rattle.monoid_laws.specs.declared.Kind.{Kind}
use Rattle.record_theory.specs.Record.{PlainRecord}
use Rattle.record_theory.specs.Named.{AreValuesFrom}
use Rattle.positions.specs.Layers.{PlainLayer}
use Rattle.answered_loops.specs.Answered.{absorbed, answered_more}
use Rattle.loop_answers.specs.Batches.{sums_of, instances_in}
use Rattle.loop_answers.proofs.Lists.{all_at, absorbs_more, counts_more, still_same}
use Rattle.loop_answers.proofs.taking.take_over.Goals as goal

pub reuse_for-requires-clause-values : goal.reuse_for-requires-clause-values
reuse_for-requires-clause-values g c κs within =
    subst (λ (ks : List Kind). AreValuesFrom 0 ks c.batch-item.result.sum.now.contribution) (sym c.loop-batch.invariant.kinds)
    (all_at (λ (r : PlainRecord). AreValuesFrom 0 c.args.layer.now.kinds r.contribution) (λ b. b.sum.now) c.args.found.now c.loop-batch.batch-index c.batch-item.result c.requires.values c.loop-batch-test.true c.batch-item.is)

pub loop-batch-preserved : goal.loop-batch-preserved
loop-batch-preserved g c =
    let inv = c.loop-batch.invariant in
    record {
      kinds = ap (λ (l : PlainLayer). l.kinds) c.in_ok-reuse_for.ensures.absorbed ∙ inv.kinds;
      counted = still_same c.args.tally.now c.loop-batch.tally c.reuse_for.new.self (c.loop-batch.tally.reused + c.batch-item.result.count) inv.counted c.in_ok-reuse_for.ensures.answered;
      answered = counts_more c.args.found.now c.loop-batch.batch-index c.batch-item.result c.loop-batch.tally c.reuse_for.new.self (answered_more (instances_in c.args.found.now) c.args.tally.now)
          c.loop-batch-test.true c.batch-item.is c.in_ok-reuse_for.ensures.answered inv.answered;
      absorbed = absorbs_more (λ b. b.sum.now) c.args.depth c.args.found.now c.loop-batch.batch-index c.batch-item.result c.loop-batch.layer c.reuse_for.new.layer (absorbed c.args.depth (sums_of c.args.found.now) c.args.layer.now)
          c.loop-batch-test.true c.batch-item.is c.in_ok-reuse_for.ensures.absorbed inv.absorbed;
    }
