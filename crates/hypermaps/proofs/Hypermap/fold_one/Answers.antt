use Rattle.std.proofs.Common.{◌≡◌, sym, ◌∙◌, ap, subst, map, List}
use Rattle.monoid_laws.specs.Worth.{Worth}
use Rattle.monoid_laws.specs.declared.Kind.{Kind}
use Rattle.monoid_laws.specs.Kinds.{operate_all, identities, AreWorths}
use Rattle.monoid_laws.proofs.Rows.{operate_all_identities}
use Rattle.hypermaps.specs.Layer.{Layer}
use Rattle.hypermaps.proofs.Hypermap.fold_one.Goals as goal

pub returns-then-fold_alone-clause-emptied : goal.returns-then-fold_alone-clause-emptied
returns-then-fold_alone-clause-emptied g c =
    c.fold_alone.ensures.emptied c.if-fold_alone.true ∙ ap identities (ap (λ (l : Layer). l.kinds) c.right.view_is ∙ sym c.requires.kinds)

pub returns-then-fold_alone-clause-folded : goal.returns-then-fold_alone-clause-folded
returns-then-fold_alone-clause-folded g c =
    let ks : List Kind = c.args.self.now.kinds in
    let ls : List Worth = map g.V.View.worth_of c.fold_alone.new.left.items in
    let rs : List Worth = map g.V.View.worth_of c.fold_alone.new.right.items in
    let before : List Worth = map g.V.View.worth_of c.self.inside.views.items in
    let behind : List Worth = map g.V.View.worth_of c.right.inside.views.items in
    let same : map g.V.View.kind_of c.self.inside.views.items ≡ ks = ap (λ (l : Layer). l.kinds) c.self.view_is in
    let are : AreWorths ks ls = subst (λ (cs : List Kind). AreWorths cs ls) (c.fold_alone.ensures.left_kinds ∙ same) c.fold_alone.ensures.left_layer.right in
    sym (operate_all_identities ks ls c.requires.monoids are)
    ∙ ap (operate_all ks ls) (sym (returns-then-fold_alone-clause-emptied g c))
    ∙ ap (λ (cs : List Kind). operate_all cs ls rs) (sym same)
    ∙ c.fold_alone.ensures.product
    ∙ ap (λ (cs : List Kind). operate_all cs before behind) same
    ∙ ap (λ (ws : List Worth). operate_all ks ws behind) (ap (λ (l : Layer). l.worths) c.self.view_is)
    ∙ ap (operate_all ks c.args.self.now.worths) (ap (λ (l : Layer). l.worths) c.right.view_is)

pub invariant_of-right : goal.invariant_of-right
invariant_of-right g c = c.fold_alone.ensures.right_layer c.right.inside.used.items c.right.invariant

pub invariant_of-right-2 : goal.invariant_of-right-2
invariant_of-right-2 g c = c.fold_alone.ensures.right_layer c.right.inside.used.items c.right.invariant
