use Rattle.std.proofs.Common.{◌≡◌, ◌++◌, List, length, map, subst, sym, ap, ◌∙◌, arith, get_or}
use Rattle.std.specs.Prelude.{option_to_list}
use Rattle.monoid_laws.specs.Worth.{Worth}
use Rattle.monoid_laws.specs.declared.Kind.{Kind}
use Rattle.record_theory.proofs.Absorbed.{each, there}
use Rattle.record_theory.specs.Named.{AreValuesFrom}
use Rattle.layers.proofs.Touches.{touched_values}
use Rattle.instance_records.specs.ShortLists.{items_in}
use Rattle.layers.proofs.Few.{two_touched, both_kept}
use Rattle.layers.proofs.few_values.values_of_some.Goals as goal

pub returns-in-Ok-clause-touched : goal.returns-in-Ok-clause-touched
returns-in-Ok-clause-touched g c =
    let ks : List Kind = c.args.hypermap.now.kinds in
    let ws : List Worth = c.args.hypermap.now.worths in
    let both : length c.args.hypermap.now.kinds ≡ length c.args.hypermap.now.worths = each ks ws c.len.ensures.worths in
    let two : length c.args.hypermap.now.kinds ≡ 2 = ap length c.requires.kinds ∙ c.requires.two in
    let v : (x : Worth) × (x ≡ get_or ws 0 x) = there ws 0 (omega (arith, both, two)) in
    let w : (x : Worth) × (x ≡ get_or ws 1 x) = there ws 1 (omega (arith, both, two)) in
    both_kept (option_to_list c.in_ok-first.first) (option_to_list c.in-Ok.second) (items_in c.both_listed.result) c.both_listed.ensures.listed
    (c.in_ok-first.ensures.touched v.0 v.1) (c.in-Ok.ensures.touched w.0 w.1)
    ∙ two_touched ks ws c.index-kinds-0.result c.index-kinds-1.result v.0 w.0 two both
    (subst (λ (cs : List Kind). c.index-kinds-0.result ≡ get_or cs 0 c.index-kinds-0.result) (sym c.requires.kinds) c.index-kinds-0.is)
    (subst (λ (cs : List Kind). c.index-kinds-1.result ≡ get_or cs 1 c.index-kinds-1.result) (sym c.requires.kinds) c.index-kinds-1.is)
    v.1 w.1

pub returns-in-Ok-clause-values : goal.returns-in-Ok-clause-values
returns-in-Ok-clause-values g c =
    let ks : List Kind = c.args.hypermap.now.kinds in
    let ws : List Worth = c.args.hypermap.now.worths in
    subst (AreValuesFrom 0 ks) (sym (returns-in-Ok-clause-touched g c)) (touched_values ks ws c.len.ensures.worths)
