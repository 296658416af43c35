use Rattle.std.proofs.Common.{◌≡◌, ◌<◌, length, map, get_or, List, [], subst, sym, ◌∙◌}
use Rattle.std.specs.Prelude.{All, refl}
use Rattle.monoid_laws.specs.Worth.{Worth}
use Rattle.monoid_laws.specs.declared.Kind.{Kind}
use Rattle.hypermaps.proofs.Folds.{emptied_next, next_within, same_read, exists_at, IsLayer-more, IsLayer-over}
use Rattle.hypermaps.proofs.fold_used.Goals as goal

pub loop-place-preserved : goal.loop-place-preserved
loop-place-preserved g c =
    let ks : List Kind = map g.V.View.kind_of c.loop-place.right.items in
    let ws : List Worth = map g.V.View.worth_of c.loop-place.right.items in
    let us = c.args.used.now in
    let i = c.loop-place.place in
    let r = get_or us i 0 in
    let is : r ≡ get_or us i r = same_read us i 0 r c.loop-place-test.true in
    let k : (x : Kind) × (x ≡ get_or ks r x) = exists_at ks r (next_within ks ws us i r c.loop-place.invariant.right_layer c.loop-place-test.true is) in
    record {
      left_kinds = c.in_ok-fold_at.ensures.left_kinds ∙ c.loop-place.invariant.left_kinds;
      right_kinds = c.in_ok-fold_at.ensures.right_kinds ∙ c.loop-place.invariant.right_kinds;
      left_layer = c.in_ok-fold_at.ensures.left_layer;
      right_layer = rw (c.in_ok-fold_at.ensures.right_kinds, c.in_ok-fold_at.ensures.moved (k.0) (k.1))
          (emptied_next ks ws us i r (k.0) c.loop-place.invariant.right_layer c.loop-place-test.true is (k.1));
      product = rw (← c.loop-place.invariant.product, ← c.loop-place.invariant.left_kinds, ← c.in_ok-fold_at.ensures.product, c.in_ok-fold_at.ensures.left_kinds) refl;
    }

pub returns-in_err-fold_at-clause-right_layer : goal.returns-in_err-fold_at-clause-right_layer
returns-in_err-fold_at-clause-right_layer g c =
    let ks : List Kind = map g.V.View.kind_of c.loop-place.right.items in
    let ws : List Worth = map g.V.View.worth_of c.loop-place.right.items in
    let us = c.args.used.now in
    rw (c.fold_at.ensures.right_kinds, c.in_err-fold_at.ensures.same)
    (IsLayer-more ks ws us c.loop-place.place c.loop-place.invariant.right_layer
    (subst (λ (cs : List Kind). All (λ i. i < length cs) us) (sym c.loop-place.invariant.right_kinds) c.requires.right_layer.below))

pub returns-clause-right_layer : goal.returns-clause-right_layer
returns-clause-right_layer g c =
    let ks : List Kind = map g.V.View.kind_of c.loop-place.right.items in
    let us = c.args.used.now in
    IsLayer-more ks (map g.V.View.worth_of c.loop-place.right.items) us c.loop-place.place c.loop-place.invariant.right_layer
    (subst (λ (cs : List Kind). All (λ i. i < length cs) us) (sym c.loop-place.invariant.right_kinds) c.requires.right_layer.below)

pub returns-clause-emptied : goal.returns-clause-emptied
returns-clause-emptied g c = IsLayer-over _ _ c.args.used.now c.loop-place.place c.loop-place.invariant.right_layer c.loop-place-test.false
