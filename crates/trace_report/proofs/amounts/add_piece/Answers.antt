use Rattle.std.proofs.Common.{◌≡◌, pos, get_or, rules, w64, to_z, of_z}
use Rattle.monoid_laws.specs.Kinds.{merge}
use Rattle.trace_report.proofs.Sums.{one_more_amount}
use Rattle.trace_report.proofs.amounts.add_piece.Goals as goal

pub loop-key-preserved : goal.loop-key-preserved
loop-key-preserved c =
    let e = get_or c.args.piece.now c.loop-key.key-index (pos 0, pos 0) in
    let key : to_z w64 (of_z w64 e.0) ≡ e.0 = search rules in
    let amount : to_z w64 (of_z w64 e.1) ≡ e.1 = search rules in
    let next = one_more_amount c.loop-key.sums.entries c.add.new.sums.entries c.args.piece.now c.loop-key.key-index (pos 0, pos 0) _ _
    (λ rest. merge c.args.sums.now.entries (merge c.args.piece.now rest)) c.loop-key-test.true key amount c.loop-key.invariant.rises c.in_ok-add.ensures c.loop-key.invariant.added in
    record { rises = next.0; added = next.1 }
