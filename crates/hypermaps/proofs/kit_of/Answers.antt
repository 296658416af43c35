use Rattle.std.proofs.Common.{◌≡◌, [], map, subst, sym}
use Rattle.hypermaps.specs.Layer.{IsLayer}
use Rattle.hypermaps.proofs.Folds.{IsLayer-none}
use Rattle.hypermaps.proofs.Layers.{all_at_identity, no_items}
use Rattle.hypermaps.proofs.kit_of.Goals as goal

pub kit_at_identity-requires-clause-at_identity : goal.kit_at_identity-requires-clause-at_identity
kit_at_identity-requires-clause-at_identity g c κs within =
    let none : c.args.used.now ≡ [] = no_items c.args.used.now (sym c.if-is_empty.ensures) in
    all_at_identity g.V.View.kind_of g.V.View.worth_of c.args.views.items
    (IsLayer-none (map g.V.View.kind_of c.args.views.items) (map g.V.View.worth_of c.args.views.items)
    (subst (IsLayer (map g.V.View.kind_of c.args.views.items) (map g.V.View.worth_of c.args.views.items)) none c.requires.layer))
