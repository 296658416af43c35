use Rattle.std.proofs.Common.{◌≡◌, List, length, map, subst, sym, ap, ◌∙◌, arith, get_or}
use Rattle.monoid_laws.specs.Worth.{Worth}
use Rattle.monoid_laws.specs.declared.Kind.{Kind}
use Rattle.record_theory.specs.Record.{touched}
use Rattle.instance_records.specs.Gifts.{given_by}
use Rattle.record_theory.proofs.Absorbed.{each, there}
use Rattle.record_theory.specs.Named.{AreValuesFrom}
use Rattle.layers.proofs.Touches.{touched_values}
use Rattle.layers.proofs.Few.{one_touched}
use Rattle.layers.proofs.few_values.value_of_one.Goals as goal

pub returns-clause-touched : goal.returns-clause-touched
returns-clause-touched g c =
    let ks : List Kind = c.args.hypermap.now.kinds in
    let ws : List Worth = c.args.hypermap.now.worths in
    let both : length c.args.hypermap.now.kinds ≡ length c.args.hypermap.now.worths = each ks ws c.len.ensures.worths in
    let one : length c.args.hypermap.now.kinds ≡ 1 = ap length c.requires.kinds ∙ c.requires.one in
    let w : (x : Worth) × (x ≡ get_or ws 0 x) = there ws 0 (omega (arith, both, one)) in
    ap (λ es. map touched (map given_by es)) c.one_listed.ensures.listed
    ∙ c.in_ok-first.ensures.touched w.0 w.1
    ∙ one_touched ks ws c.index-kinds-0.result w.0 one both
    (subst (λ (cs : List Kind). c.index-kinds-0.result ≡ get_or cs 0 c.index-kinds-0.result) (sym c.requires.kinds) c.index-kinds-0.is) w.1

pub returns-clause-values : goal.returns-clause-values
returns-clause-values g c =
    let ks : List Kind = c.args.hypermap.now.kinds in
    let ws : List Worth = c.args.hypermap.now.worths in
    subst (AreValuesFrom 0 ks) (sym (returns-clause-touched g c)) (touched_values ks ws c.len.ensures.worths)
