use Rattle.std.proofs.Common.{◌≡◌, map, drop}
use Rattle.monoid_laws.specs.Kinds.{operate_all}
use Rattle.hypermaps.specs.Layer.{IsLayer}
use Rattle.hypermaps.proofs.fold_used.Given as goal

abbrev pub invariant-loop-place : goal.invariant-loop-place
invariant-loop-place g l = record {
  left_kinds : map g.V.View.kind_of l.left.items ≡ map g.V.View.kind_of l.fn.left.items;
  right_kinds : map g.V.View.kind_of l.right.items ≡ map g.V.View.kind_of l.fn.right.items;
  left_layer : IsLayer (map g.V.View.kind_of l.left.items) (map g.V.View.worth_of l.left.items) l.left_used.items;
  right_layer : IsLayer (map g.V.View.kind_of l.right.items) (map g.V.View.worth_of l.right.items) (drop l.place l.used);
  product : operate_all (map g.V.View.kind_of l.fn.left.items) (map g.V.View.worth_of l.left.items) (map g.V.View.worth_of l.right.items)
      ≡ operate_all (map g.V.View.kind_of l.fn.left.items) (map g.V.View.worth_of l.fn.left.items) (map g.V.View.worth_of l.fn.right.items);
}
