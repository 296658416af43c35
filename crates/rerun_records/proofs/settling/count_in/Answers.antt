use Rattle.std.proofs.Common.{map}
use Rattle.evaluation.specs.Short.{note_of}
use Rattle.rerun_records.proofs.Settled.{still_counted, still_few, all_counted}
use Rattle.rerun_records.proofs.settling.count_in.Goals as goal

pub loop-note-preserved : goal.loop-note-preserved
loop-note-preserved c =
    let l = c.loop-note in
    record {
      counted = still_counted (map note_of c.args.cells.now) c.args.notes.now l.note-index _ c.in-Some.there l.count c.one_if-count.result c.loop-note-test.true c.in-Some.ensures.tells c.one_if-count.ensures.one l.invariant.counted;
      few = still_few c.args.notes.now l.note-index l.count c.one_if-count.result c.loop-note-test.true c.one_if-count.ensures.few l.invariant.few;
    }

pub returns : goal.returns
returns c =
    let l = c.loop-note in
    record { settles = all_counted (map note_of c.args.cells.now) c.args.notes.now l.note-index l.count c.loop-note-test.false l.invariant.counted l.invariant.few }
