use Rattle.std.proofs.Common.{◌≡◌, ◌<◌, ◌≤◌, List, length, map, get_or, subst, sym, ap, ◌∙◌}
use Rattle.monoid_laws.specs.declared.Kind.{Kind}
use Rattle.monoid_laws.specs.Worth.{Worth}
use Rattle.record_theory.specs.Record.{touched}
use Rattle.instance_records.specs.Gifts.{given_by}
use Rattle.layers.specs.Gatherings.{gathered_in}
use Rattle.record_theory.specs.Named.{AreValuesFrom}
use Rattle.record_theory.proofs.Absorbed.{each, there}
use Rattle.layers.proofs.Touches.{touched_next, touched_all, touched_values}
use Rattle.layers.proofs.recording.contribution_of_many.Goals as goal

pub loop-reducer-preserved : goal.loop-reducer-preserved
loop-reducer-preserved g c =
    let i = c.loop-reducer.reducer in
    let ks : List Kind = c.args.hypermap.now.kinds in
    let ws : List Worth = c.args.hypermap.now.worths in
    let less : c.loop-reducer.reducer < length c.args.hypermap.now.kinds =
    subst (λ (cs : List Kind). c.loop-reducer.reducer < length cs) (sym c.requires.kinds) c.loop-reducer-test.true in
    let at : c.index-kinds-reducer.result ≡ get_or c.args.hypermap.now.kinds c.loop-reducer.reducer c.index-kinds-reducer.result =
    subst (λ (cs : List Kind). c.index-kinds-reducer.result ≡ get_or cs c.loop-reducer.reducer c.index-kinds-reducer.result) (sym c.requires.kinds) c.index-kinds-reducer.is in
    let w : (x : Worth) × (x ≡ get_or ws i x) = there ws i (subst (λ n. c.loop-reducer.reducer < n) (each ks ws c.len.ensures.worths) less) in
    touched_next (map touched (map given_by (gathered_in c.loop-reducer.values))) (map touched (map given_by (gathered_in c.push_touched.new.values))) i ks ws c.index-kinds-reducer.result w.0 c.len.ensures.worths less at w.1
    c.loop-reducer.invariant (c.in_ok-push_touched.ensures.pushed w.0 w.1)

pub returns-clause-touched : goal.returns-clause-touched
returns-clause-touched g c =
    let ks : List Kind = c.args.hypermap.now.kinds in
    let ws : List Worth = c.args.hypermap.now.worths in
    let over : length c.args.hypermap.now.kinds ≤ c.loop-reducer.reducer = subst (λ (cs : List Kind). length cs ≤ c.loop-reducer.reducer) (sym c.requires.kinds) c.loop-reducer-test.false in
    ap (λ vs. map touched (map given_by vs)) c.into_list.ensures.same ∙ touched_all (map touched (map given_by (gathered_in c.loop-reducer.values))) c.loop-reducer.reducer ks ws over c.loop-reducer.invariant

pub returns-clause-values : goal.returns-clause-values
returns-clause-values g c =
    let ks : List Kind = c.args.hypermap.now.kinds in
    let ws : List Worth = c.args.hypermap.now.worths in
    let over : length c.args.hypermap.now.kinds ≤ c.loop-reducer.reducer = subst (λ (cs : List Kind). length cs ≤ c.loop-reducer.reducer) (sym c.requires.kinds) c.loop-reducer-test.false in
    subst (AreValuesFrom 0 ks)
    (sym (ap (λ vs. map touched (map given_by vs)) c.into_list.ensures.same ∙ touched_all (map touched (map given_by (gathered_in c.loop-reducer.values))) c.loop-reducer.reducer ks ws over c.loop-reducer.invariant))
    (touched_values ks ws c.len.ensures.worths)
