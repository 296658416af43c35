use Rattle.std.proofs.Common.{subst, sym}
use Rattle.stealing_deques.specs.declared.entry.PlainOwner.{PlainOwner}
use Rattle.stealing_deques.specs.Order.{spot, IsBoundTo}
use Rattle.stealing_deques.proofs.Shown.{pushes}
use Rattle.stealing_deques.proofs.owner.OwnerEnd.push.Goals as goal

pub push_as-requires-clause-pushes : goal.push_as-requires-clause-pushes
push_as-requires-clause-pushes g c =
    pushes _ _ _ _ c.self.invariant.1 c.self.invariant.3 c.requires.goes_on (subst (λ (o : PlainOwner). IsBoundTo o.here (spot (g.T.Continuation.bottom c.args.task) (g.T.Continuation.since c.args.task))) (sym c.self.view_is) c.requires.bound)
