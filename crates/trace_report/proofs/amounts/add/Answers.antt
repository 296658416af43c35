use Rattle.std.proofs.Common.{w64, rules, FitsSigned}
use Rattle.std.proofs.lemmas.Int.{to_z-of_z}
use Rattle.trace_report.proofs.Sums.{added_at}
use Rattle.trace_report.proofs.amounts.add.Goals as goal

pub returns-in-Ok : goal.returns-in-Ok
returns-in-Ok c =
    let fits : FitsSigned w64 c.sum_with-sum.result = search rules in
    added_at _ _ _ _ c.args.key c.args.amount _ _ _ _ (to_z-of_z w64 _ c.ranges.key) (to_z-of_z w64 _ c.ranges.key) (to_z-of_z w64 _ c.ranges.amount) (to_z-of_z w64 _ fits) c.requires
    c.get.ensures.value c.sum_with-sum.ensures c.in-Ok.ensures.entries
