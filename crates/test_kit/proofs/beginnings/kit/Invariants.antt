use Rattle.std.proofs.Common.{◌≡◌, ◌++◌, map, drop}
use Rattle.test_kit.proofs.beginnings.kit.Given as goal

abbrev pub invariant-loop-kind : goal.invariant-loop-kind
invariant-loop-kind l = map (λ v. v.kind) l.views.items ++ drop l.kind-index l.kinds ≡ l.kinds
