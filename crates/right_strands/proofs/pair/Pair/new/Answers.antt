use Rattle.right_strands.proofs.Pairs.{pair_of}
use Rattle.right_strands.proofs.pair.Pair.new.Goals as goal

pub invariant_of-result : goal.invariant_of-result
invariant_of-result g c =
    let l = c.into_right.ensures in
    let r = c.into_right-2.ensures in
    pair_of g.J.Run.setting c.args.left c.args.right c.into_right.result.strand c.into_right-2.result.strand c.start-start.result l.strand r.strand c.start-start.ensures.start
    (record { right = l.right; paused_so = l.paused_so; kinds = l.kinds }) (record { right = r.right; paused_so = r.paused_so; kinds = r.kinds }) c.requires.over c.requires.waits c.requires.may
