use Rattle.rerun_records.proofs.covers.join_all.Goals as goal

pub loop-alloc-preserved : goal.loop-alloc-preserved
loop-alloc-preserved c = λ list width wider factor narrow h. c.join.ensures.held list width wider factor narrow (c.loop-alloc.invariant list width wider factor narrow h)
