use Rattle.std.proofs.Common.{◌≡◌, List, length, subst, sym, ap, ◌∙◌, get_or}
use Rattle.monoid_laws.specs.Worth.{Worth}
use Rattle.monoid_laws.specs.Kinds.{meaning}
use Rattle.monoid_laws.specs.declared.Kind.{Kind}
use Rattle.record_theory.proofs.Absorbed.{each}
use Rattle.record_theory.specs.Named.{AreValuesFrom}
use Rattle.layers.proofs.Touches.{touched_values}
use Rattle.layers.proofs.Few.{two_touched}
use Rattle.layers.proofs.few_values.values_of_used.Goals as goal

pub returns-in_ok-pair_listed-in-Ok-clause-touched : goal.returns-in_ok-pair_listed-in-Ok-clause-touched
returns-in_ok-pair_listed-in-Ok-clause-touched g c =
    let ks : List Kind = c.args.hypermap.now.kinds in
    let ws : List Worth = c.args.hypermap.now.worths in
    let both : length c.args.hypermap.now.kinds ≡ length c.args.hypermap.now.worths = each ks ws c.len.ensures.worths in
    let two : length c.args.hypermap.now.kinds ≡ 2 = ap length c.requires.kinds ∙ c.requires.two in
    c.in_ok-pair_listed-in-Ok.ensures.touched
    ∙ two_touched ks ws c.index-kinds-0.result c.index-kinds-1.result (meaning c.in_ok-first.first) (meaning c.in-Ok.second) two both
    (subst (λ (cs : List Kind). c.index-kinds-0.result ≡ get_or cs 0 c.index-kinds-0.result) (sym c.requires.kinds) c.index-kinds-0.is)
    (subst (λ (cs : List Kind). c.index-kinds-1.result ≡ get_or cs 1 c.index-kinds-1.result) (sym c.requires.kinds) c.index-kinds-1.is)
    c.in_ok-first.ensures c.in-Ok.ensures

pub returns-in_ok-pair_listed-in-Ok-clause-values : goal.returns-in_ok-pair_listed-in-Ok-clause-values
returns-in_ok-pair_listed-in-Ok-clause-values g c =
    let ks : List Kind = c.args.hypermap.now.kinds in
    let ws : List Worth = c.args.hypermap.now.worths in
    subst (AreValuesFrom 0 ks) (sym (returns-in_ok-pair_listed-in-Ok-clause-touched g c)) (touched_values ks ws c.len.ensures.worths)
