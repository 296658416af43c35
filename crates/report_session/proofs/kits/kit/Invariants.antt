use Rattle.std.proofs.Common.{◌≡◌, ◌++◌, map, drop}
use Rattle.report_session.proofs.kits.kit.Given as goal

abbrev pub invariant-loop-kind : goal.invariant-loop-kind
invariant-loop-kind g l = map g.V.View.kind_of l.views.items ++ drop l.kind-index l.kinds ≡ l.kinds
