use Rattle.std.proofs.Common.{◌≡◌, sym, ◌∙◌, ap, map}
use Rattle.monoid_laws.specs.Kinds.{identities}
use Rattle.hypermaps.proofs.Layers.{IsLayer-open, worths_at_identity, layer_same}
use Rattle.hypermaps.proofs.Hypermap.open_in.Goals as goal

pub invariant_of-result : goal.invariant_of-result
invariant_of-result g c =
    rw (worths_at_identity g.V.View.kind_of g.V.View.worth_of c.into_views-views.result.items c.into_views-views.ensures.at_identity, c.requires)
    (IsLayer-open (map g.V.View.kind_of c.into_views-views.result.items))

pub returns : goal.returns
returns g c =
    let k : c.args.kit ≡ map g.V.View.kind_of c.into_views-views.result.items = c.into_views-views.ensures.kinds in
    let w : map g.V.View.worth_of c.into_views-views.result.items ≡ identities (map g.V.View.kind_of c.into_views-views.result.items) =
    worths_at_identity g.V.View.kind_of g.V.View.worth_of c.into_views-views.result.items c.into_views-views.ensures.at_identity in
    layer_same _ _ _ _ (sym k) (w ∙ ap identities (sym k))
