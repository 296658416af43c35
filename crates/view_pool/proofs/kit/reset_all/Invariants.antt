use Rattle.std.proofs.Common.{◌≡◌, map, vec_len}
use Rattle.std.specs.List.{AllWithin}
use Rattle.monoid_laws.specs.Kinds.{identity_of}
use Rattle.view_pool.proofs.kit.reset_all.Given as goal

abbrev pub invariant-loop-i : goal.invariant-loop-i
invariant-loop-i g l = record {
  kinds : map g.V.View.kind_of l.views.items ≡ map g.V.View.kind_of l.fn.views.items;
  size : vec_len l.views ≡ l.i-end;
  done : AllWithin (λ v. g.V.View.worth_of v ≡ identity_of (g.V.View.kind_of v)) l.views.items 0 l.i;
}
