use Rattle.std.proofs.Common.{rules, ◌≡◌, ◌∙◌, length, arith}
use Rattle.record_numbers.proofs.Cleared.{set_is_cleared, push_is_cleared}
use Rattle.record_numbers.proofs.stale.clear.Goals as goal

pub returns-then-place-len-clause-cleared : goal.returns-then-place-len-clause-cleared
returns-then-place-len-clause-cleared c =
    let long : c.len.result ≡ length c.args.numbers.now.items = search rules in
    set_is_cleared c.args.numbers.now.items c.args.place (let t = c.if-place-len.true in omega (arith, long, t))

pub returns-else-place-len-clause-cleared : goal.returns-else-place-len-clause-cleared
returns-else-place-len-clause-cleared c =
    let long : c.len.result ≡ length c.args.numbers.now.items = search rules in
    c.push_reserved.ensures.items ∙ push_is_cleared c.args.numbers.now.items c.args.place (let f = c.if-place-len.false in omega (arith, long, f))
