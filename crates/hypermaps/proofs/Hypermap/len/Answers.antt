use Rattle.std.proofs.Common.{subst}
use Rattle.monoid_laws.specs.Kinds.{AreWorths}
use Rattle.hypermaps.specs.Layer.{Layer}
use Rattle.hypermaps.proofs.Hypermap.len.Goals as goal

pub returns-clause-worths : goal.returns-clause-worths
returns-clause-worths g c = subst (λ (l : Layer). AreWorths l.kinds l.worths) c.self.view_is c.self.invariant.right
