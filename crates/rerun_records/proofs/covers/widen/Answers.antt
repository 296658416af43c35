use Rattle.std.proofs.Common.{rules, ◌≡◌, ◌<◌, length, arith}
use Rattle.rerun_records.proofs.Covering.{widened_kept}
use Rattle.rerun_records.proofs.covers.widen.Goals as goal

pub returns-else-not-holds-clause-kept : goal.returns-else-not-holds-clause-kept
returns-else-not-holds-clause-kept c =
    let hulls = c.args.hulls.now.items in
    let long : c.len.result ≡ length hulls = search rules in
    let within : c.args.number < length hulls = omega (arith, long, c.if-number-len.false) in
    widened_kept hulls c.args.number c.index_mut.result.now c.holds.new.hull within c.index_mut.ensures.value (c.holds.ensures.kept c.if-not-holds.false)
