use Rattle.std.proofs.Common.{◌≡◌, ◌⊎◌, ◌+◌, ◌≤◌, List, All, reverse, length}
use Rattle.monoid_laws.specs.declared.Kind.{Kind}
use Rattle.positions.specs.Layers.{PlainLayer, lowest}
use Rattle.layers.proofs.closing.close_all.Given as goal

abbrev pub invariant-loop-next : goal.invariant-loop-next
invariant-loop-next g l = record {
  lowest : lowest l.layer (reverse l.lower.items) ≡ lowest l.fn.layer (reverse l.fn.lower.items);
  kinds : All (λ (m : PlainLayer). m.kinds ≡ l.fn.layer.kinds) l.lower.items;
  same : l.layer.kinds ≡ l.fn.layer.kinds;
  fits : g.K.KitSource.fits l.fn.layer.kinds l.kits;
  fitting : (k : List Kind) → g.K.KitSource.fits k l.fn.kits → g.K.KitSource.fits k l.kits;
  gives_known : (k : List Kind) → g.K.KitSource.gives k l.kits → g.K.KitSource.gives k l.fn.kits ⊎ l.fn.layer.kinds ≡ k;
  home : length l.fn.lower.items + g.K.KitSource.free l.fn.kits ≤ g.K.KitSource.total l.fn.kits → length l.lower.items + g.K.KitSource.free l.kits ≡ length l.fn.lower.items + g.K.KitSource.free l.fn.kits;
  total : g.K.KitSource.total l.kits ≡ g.K.KitSource.total l.fn.kits;
}

abbrev pub decreases-loop-next : goal.decreases-loop-next
decreases-loop-next g l = length l.lower.items
