use Rattle.std.proofs.Common.{rules, ◌≡◌, Some, true, slice_set, pos, ap, sym, ◌∙◌, subst}
use Rattle.monoid_laws.specs.declared.Kind.{Kind}
use Rattle.monoid_laws.specs.declared.Val.TheVariants as v
use Rattle.monoid_laws.specs.Worth.{Worth}
use Rattle.monoid_laws.specs.Kinds.{operate, meaning}
use Rattle.hypermaps.specs.Layer.{IsAt}
use Rattle.instance_records.specs.Gifts.{given_by}
use Rattle.layers.proofs.absorbing.absorb_short.Goals as goal

pub returns-in-Number-clause-absorbed : goal.returns-in-Number-clause-absorbed
returns-in-Number-clause-absorbed g c =
    let from_is : c.in-Number.reducer ≡ c.from.result = search rules in
    let same : given_by c.args.gift.now ≡ (c.from.result, c.value_of.result) =
    ap given_by c.in-Number.is ∙ ap (λ n. (n, v.Int c.in-Number.number)) from_is ∙ ap (λ w. (c.from.result, w)) (sym c.value_of.ensures.same) in
    subst (λ e. (k : Kind) (x : Worth) → IsAt c.args.hypermap.now.kinds e.0 k → IsAt c.args.hypermap.now.worths e.0 x → c.absorb_at_once.result ≡ true
    → c.absorb_at_once.new.self.worths ≡ slice_set c.args.hypermap.now.worths e.0 (operate k x (meaning e.1))) (sym same)
    c.absorb_at_once.ensures.absorbed

pub returns-in-Best-clause-absorbed : goal.returns-in-Best-clause-absorbed
returns-in-Best-clause-absorbed g c =
    let from_is : c.in-Best.reducer ≡ c.from-in-Best.result = search rules in
    let same : given_by c.args.gift.now ≡ (c.from-in-Best.result, c.best_of.result) =
    ap given_by c.in-Best.is ∙ ap (λ n. (n, v.Arg (Some (c.in-Best.first, pos c.in-Best.second)))) from_is ∙ ap (λ w. (c.from-in-Best.result, w)) (sym c.best_of.ensures.same) in
    subst (λ e. (k : Kind) (x : Worth) → IsAt c.args.hypermap.now.kinds e.0 k → IsAt c.args.hypermap.now.worths e.0 x → c.absorb_at_once-in-Best.result ≡ true
    → c.absorb_at_once-in-Best.new.self.worths ≡ slice_set c.args.hypermap.now.worths e.0 (operate k x (meaning e.1))) (sym same)
    c.absorb_at_once-in-Best.ensures.absorbed

pub returns-in-Other-clause-absorbed : goal.returns-in-Other-clause-absorbed
returns-in-Other-clause-absorbed g c = λ k x at held none. absurd cc
