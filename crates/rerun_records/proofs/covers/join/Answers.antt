use Rattle.std.proofs.Common.{rules, ◌≡◌, ◌+◌, ◌*◌, length, List, ap, subst, sym, refl, arith, ℕ}
use Rattle.instance_records.specs.declared.spans.Span.{Span}
use Rattle.rerun_records.specs.Covers.{CoversLevel}
use Rattle.rerun_records.proofs.Covering.{joined_covers}
use Rattle.rerun_records.proofs.covers.join.Goals as goal

pub returns-clause-held : goal.returns-clause-held
returns-clause-held c = λ list width wider factor narrow h.
    let wide = c.args.wide.now.items in
    let long : c.len-first.result ≡ length wide = search rules in
    let begins : c.len-first.result * 32 ≡ length wide * 32 = ap (λ (n : ℕ). n * 32) long in
    let room = c.requires.room in
    subst (λ (hs : List (List Span)). CoversLevel list (record { width = wider; hulls = hs })) (sym c.in_ok-push.ensures.items)
    (joined_covers list width wider (c.len-first.result * 32) (c.len-first.result * 32 + 32) c.args.hulls.now wide c.in_ok-hull.hull factor begins refl (omega (arith, begins, room)) c.in_ok-hull.ensures.held narrow h)
