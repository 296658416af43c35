use Rattle.std.proofs.Common.{◌≡◌, ◌++◌, map, drop}
use Rattle.test_kit.proofs.beginnings.kit_by.Given as goal

abbrev pub invariant-loop-kind : goal.invariant-loop-kind
invariant-loop-kind g l = map g.V.View.kind_of l.views.items ++ drop l.kind-index l.kinds ≡ l.kinds
