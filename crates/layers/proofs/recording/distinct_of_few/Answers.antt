use Rattle.std.proofs.Common.{map}
use Rattle.evaluation.specs.Short.{note_of}
use Rattle.instance_records.specs.ShortLists.{items_in}
use Rattle.layers.proofs.Marks.{still_once}
use Rattle.layers.proofs.recording.distinct_of_few.Goals as goal

pub loop-reading-preserved : goal.loop-reading-preserved
loop-reading-preserved c =
    still_once (map note_of (items_in c.loop-reading.seen)) (map note_of (items_in c.mark_few.new.seen)) c.args.found.now c.loop-reading.reading-index _ c.loop-reading-test.true c.in_ok-mark_few.ensures.put c.loop-reading.invariant
