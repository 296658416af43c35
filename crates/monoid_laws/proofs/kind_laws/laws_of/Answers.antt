use Rattle.monoid_laws.proofs.Laws.{IsMonoid-kind, identity_right, operate_right}
use Rattle.monoid_laws.proofs.kind_laws.laws_of.Goals as goal

pub returns-clause-monoid : goal.returns-clause-monoid
returns-clause-monoid c = IsMonoid-kind c.args.kind

pub returns-clause-identity : goal.returns-clause-identity
returns-clause-identity c = identity_right c.args.kind

pub returns-clause-closed : goal.returns-clause-closed
returns-clause-closed c = operate_right c.args.kind
