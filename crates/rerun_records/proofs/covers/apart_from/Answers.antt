use Rattle.std.proofs.Common.{◌≡◌, ◌+◌, ◌-◌, ◌/◌, [], ◌∷◌, sym, ◌∙◌, true, arith}
use Rattle.std.specs.Prelude.{slice_get}
use Rattle.rerun_records.specs.Covers.{is_hull_apart}
use Rattle.rerun_records.proofs.Covering.{hull_begins, passed_apart}
use Rattle.rerun_records.proofs.covers.apart_from.Goals as goal

pub returns-then-is_hull_apart-clause-apart : goal.returns-then-is_hull_apart-clause-apart
returns-then-is_hull_apart-clause-apart c = λ records h.
    let width = c.args.width in
    let first = c.args.end - width in
    let within = c.if-end-width.false in
    let ends : first + width ≡ c.args.end = omega (arith, within) in
    let apart : is_hull_apart (c.args.change.now ∷ []) (slice_get c.args.hulls.now (first / width)) ≡ true = sym c.is_hull_apart.ensures.apart ∙ c.if-is_hull_apart.true in
    passed_apart records (record { width = width; hulls = c.args.hulls.now }) c.args.change.now (first / width) first c.args.end h (hull_begins width first c.if-first-width-eq0.true) ends apart
