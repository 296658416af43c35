use Rattle.rerun_records.proofs.HeldCells.{still_counted, all_counted}
use Rattle.rerun_records.proofs.Settled.{still_few}
use Rattle.rerun_records.proofs.line.count_in.Goals as goal

pub loop-note-preserved : goal.loop-note-preserved
loop-note-preserved c =
    let l = c.loop-note in
    let notes = c.args.notes.now in
    record {
      counted = still_counted c.args.change.now c.args.first c.args.end notes l.note-index _ c.in-Some.there l.count c.one_if-count.result c.loop-note-test.true c.in-Some.ensures.tells c.one_if-count.ensures.one l.invariant.counted;
      few = still_few notes l.note-index l.count c.one_if-count.result c.loop-note-test.true c.one_if-count.ensures.few l.invariant.few;
    }

pub returns : goal.returns
returns c =
    let l = c.loop-note in
    record { line = all_counted c.args.change.now c.args.first c.args.end c.args.notes.now l.note-index l.count c.loop-note-test.false l.invariant.counted l.invariant.few }
