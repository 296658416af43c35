use Rattle.std.proofs.Common.{rules, ◌≡◌}
use Rattle.monoid_laws.specs.Kinds.{merge, IsRising}
use Rattle.reducer_values.proofs.Ends.{merged_last}
use Rattle.reducer_values.proofs.amounts.merge_in_last.Goals as goal

pub returns-in-Ok-clause-merged : goal.returns-in-Ok-clause-merged
returns-in-Ok-clause-merged c =
    let piece = c.index-piece.result.now in
    let e : c.in-Ok.sums.items ≡ merge piece.items c.args.right.now = search rules in
    let r : IsRising c.args.right.now = search rules in
    λ _. merged_last (λ p. p.items) c.args.pieces.now.items c.args.last piece c.in-Ok.sums c.args.right.now r c.requires c.index-piece.ensures e
