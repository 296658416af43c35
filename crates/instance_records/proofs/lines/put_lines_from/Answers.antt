use Rattle.std.proofs.Common.{map}
use Rattle.evaluation.specs.Short.{note_of}
use Rattle.instance_records.specs.Spans.{put_span}
use Rattle.instance_records.proofs.MoreRows.{one_read, put_more}
use Rattle.instance_records.proofs.lines.put_lines_from.Goals as goal

pub loop-reading-init : goal.loop-reading-init
loop-reading-init c = record { put = c.requires.first; lines = c.none-lines.ensures.lines (map note_of c.args.own.now) }

pub loop-reading-preserved : goal.loop-reading-preserved
loop-reading-preserved c =
    let l = c.loop-reading in
    let own = c.args.own.now in
    record {
      put = put_more own l.reading-index _ (put_span l.spans.items l.run) (put_span c.go_on.new.spans.items c.go_on.new.run) _ c.loop-reading-test.true c.in_ok-go_on.ensures.joined l.invariant.put;
      lines = c.in_ok-go_on.ensures.lines (map note_of own) (one_read own l.reading-index _ c.loop-reading-test.true) l.invariant.lines;
    }

pub returns-clause-full : goal.returns-clause-full
returns-clause-full c = c.finish.ensures.full (map note_of c.args.own.now) c.loop-reading.invariant.lines
