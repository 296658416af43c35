use Rattle.std.proofs.Common.{◌+◌, ℕ, List, drop, subst, ◌∙◌}
use Rattle.std.proofs.lemmas.List.{drop_more}
use Rattle.rerun_records.specs.Covers.{AreCoveredBut}
use Rattle.rerun_records.proofs.covers.Covers.hold_all.Goals as goal

pub loop-place-preserved : goal.loop-place-preserved
loop-place-preserved c =
    let l = c.loop-place in
    let places = c.args.places.now in
    record {
      held = c.hold.ensures.held (drop (l.place-index + 1) places) (subst (λ (ps : List ℕ). AreCoveredBut ps c.args.list.now l.self) (drop_more places l.place-index _ c.loop-place-test.true) l.invariant.held);
      same = c.hold.ensures.same ∙ l.invariant.same;
    }
