use Rattle.std.proofs.Common.{take}
use Rattle.numbered_runs.specs.Named.{history}
use Rattle.strand_list.proofs.Apart.{replayed_apart}
use Rattle.strand_list.proofs.Replays.{replays_more, refuses}
use Rattle.strand_list.proofs.history.replay.Goals as goal

pub take_nth-requires : goal.take_nth-requires
take_nth-requires c = record { apart = replayed_apart (history (take c.loop-n.n c.args.steps.now)) c.loop-n.page c.loop-n.invariant }

pub loop-n-preserved : goal.loop-n-preserved
loop-n-preserved c = replays_more c.args.steps.now c.loop-n.n c.index-steps-n.result c.loop-n.page c.take_nth.new.page c.loop-n-test.true c.index-steps-n.is c.loop-n.invariant c.in-Ok-take_nth.ensures.taken

pub returns-in-Err-take_nth-clause-refused : goal.returns-in-Err-take_nth-clause-refused
returns-in-Err-take_nth-clause-refused c =
    refuses c.args.steps.now c.loop-n.n c.index-steps-n.result c.loop-n.page c.in-Err-take_nth.error c.loop-n-test.true c.index-steps-n.is c.loop-n.invariant c.in-Err-take_nth.ensures.refused
