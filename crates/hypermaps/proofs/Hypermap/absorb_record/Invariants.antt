use Rattle.std.proofs.Common.{◌≡◌, map}
use Rattle.monoid_laws.specs.Kinds.{meaning}
use Rattle.hypermaps.specs.Layer.{IsLayer, operate_first}
use Rattle.hypermaps.proofs.Hypermap.absorb_record.Given as goal

abbrev pub invariant-loop-i : goal.invariant-loop-i
invariant-loop-i g l = record {
  kinds : map g.V.View.kind_of l.self-inside.views.items ≡ l.fn.self.kinds;
  layer : IsLayer (map g.V.View.kind_of l.self-inside.views.items) (map g.V.View.worth_of l.self-inside.views.items) l.self-inside.used.items;
  so_far : map g.V.View.worth_of l.self-inside.views.items ≡ operate_first l.i l.fn.self.kinds l.fn.self.worths (map meaning l.values);
}
