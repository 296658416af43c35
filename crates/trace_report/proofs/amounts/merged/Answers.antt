use Rattle.std.proofs.Common.{◌∙◌}
use Rattle.std.proofs.lemmas.Iterator.{items_from_collect}
use Rattle.std.proofs.lemmas.Iterator.Consumers.{YieldsList-from_rest}
use Rattle.std.proofs.lemmas.Result.{IfOk-weaker}
use Rattle.trace_report.proofs.Sums.{all_merged, all_pieces}
use Rattle.trace_report.proofs.amounts.merged.Goals as goal

pub returns : goal.returns
returns c =
    let merged_all = all_merged c.loop-piece.sums.entries _ c.loop-piece.invariant.rises (all_pieces (λ p. p.items) c.args.pieces.now c.loop-piece.piece-index c.loop-piece.sums.entries _ c.loop-piece-test.false c.loop-piece.invariant.whole) in
    let listed = items_from_collect c.collect.result c.collect.ensures.ran (YieldsList-from_rest c.loop-piece.sums.entries c.into_iter.ensures.into_iter_gives.0) in
    IfOk-weaker c.collect.result _ _ (λ amounts same. same ∙ merged_all) listed
