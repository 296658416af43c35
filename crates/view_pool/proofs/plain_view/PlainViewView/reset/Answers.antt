use Rattle.std.proofs.Common.{sym, subst}
use Rattle.monoid_laws.specs.Kinds.{IsWorth}
use Rattle.monoid_laws.proofs.Laws.{identity_right}
use Rattle.view_pool.proofs.plain_view.PlainViewView.reset.Goals as goal

pub invariant_of-self-2 : goal.invariant_of-self-2
invariant_of-self-2 c = subst (IsWorth c.self.inside.kind) (sym c.identity.ensures) (identity_right c.self.inside.kind)
