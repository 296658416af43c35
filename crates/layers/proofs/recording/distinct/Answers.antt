use Rattle.std.proofs.Common.{ap, ◌∙◌}
use Rattle.positions.specs.Values.{put_note}
use Rattle.layers.proofs.Marks.{still_once}
use Rattle.layers.proofs.recording.distinct.Goals as goal

pub loop-reading-preserved : goal.loop-reading-preserved
loop-reading-preserved c =
    still_once c.loop-reading.seen.keys c.mark.new.seen.keys c.args.found.now c.loop-reading.reading-index _ c.loop-reading-test.true
    (c.in_ok-mark.ensures.put ∙ ap (put_note c.loop-reading.seen.keys) c.note.ensures.note) c.loop-reading.invariant
