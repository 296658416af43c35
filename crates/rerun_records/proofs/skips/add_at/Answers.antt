use Rattle.std.proofs.Common.{◌+◌, ◌-◌, [], refl, sym, subst, arith}
use Rattle.meaning.specs.Every.{every}
use Rattle.instance_records.specs.Spans.{is_covered_by}
use Rattle.rerun_records.specs.Skips.{PassBut, Reaches}
use Rattle.rerun_records.proofs.Covering.{stretch_passes}
use Rattle.rerun_records.proofs.Passing.{with_done, added_pass}
use Rattle.rerun_records.proofs.skips.add_at.Goals as goal

pub returns-clause-held : goal.returns-clause-held
returns-clause-held c =
    let list = c.args.list.now in
    let place = c.args.place in
    let hull = c.in_ok-hull.hull in
    let found = c.reach_back-found.result in
    let within = c.requires.there in
    subst (λ ss. PassBut [] list (with_done (place + 1) ss)) (sym c.in_ok-push.ensures.items)
    (added_pass list place c.args.skips.now.items (record { first = found.0; until = place + 1; before = found.1; hull = hull }) c.requires.held within refl
    (subst (λ ss. Reaches list ss hull place found.0 found.1) c.deref.ensures.value c.reach_back-found.ensures.reaches)
    (λ r there. stretch_passes (λ q. every (is_covered_by hull) q.reads) place (place + 1 - place) place list r (omega arith) (omega arith) c.in_ok-hull.ensures.held there))
