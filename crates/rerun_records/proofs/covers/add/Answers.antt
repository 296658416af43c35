use Rattle.std.proofs.Common.{rules, ◌≡◌, ◌+◌, ◌*◌, length, List, ap, subst, sym, refl, arith, ℕ}
use Rattle.instance_records.specs.declared.spans.Span.{Span}
use Rattle.rerun_records.specs.Covers.{CoversLevel}
use Rattle.rerun_records.proofs.Covering.{added_covers}
use Rattle.rerun_records.proofs.covers.add.Goals as goal

pub returns-clause-held : goal.returns-clause-held
returns-clause-held c = λ h.
    let hulls = c.args.hulls.now.items in
    let width = c.args.width in
    let long : c.len.result ≡ length hulls = search rules in
    let begins : c.len.result * width ≡ length hulls * width = ap (λ (n : ℕ). n * width) long in
    let room = c.requires.room in
    subst (λ (hs : List (List Span)). CoversLevel c.args.list.now (record { width = width; hulls = hs })) (sym c.in_ok-push.ensures.items)
    (added_covers c.args.list.now width (c.len.result * width) (c.len.result * width + width) hulls c.in_ok-hull.hull begins refl (omega (arith, begins, room)) c.in_ok-hull.ensures.held h)
