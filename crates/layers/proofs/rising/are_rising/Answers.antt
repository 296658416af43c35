use Rattle.std.proofs.Common.{◌<◌, arith, subst}
use Rattle.layers.specs.Ranks.{rank_of}
use Rattle.layers.proofs.Ascending.{rising_next, all_before}
use Rattle.layers.proofs.rising.are_rising.Goals as goal

pub loop-reading-preserved : goal.loop-reading-preserved
loop-reading-preserved c =
    let behind : c.loop-reading.last < c.rank-rank.result = omega (arith, c.if-rank-last.false) in (
      all_before rank_of c.args.found.now c.loop-reading.reading-index c.loop-reading.last c.rank-rank.result _ c.loop-reading-test.true c.loop-reading.invariant.0 behind c.rank-rank.ensures.rank,
      rising_next rank_of c.args.found.now c.loop-reading.reading-index c.loop-reading.last _ c.loop-reading-test.true c.loop-reading.invariant.0
          (subst (λ n. c.loop-reading.last < n) c.rank-rank.ensures.rank behind) c.loop-reading.invariant.1,
    )
