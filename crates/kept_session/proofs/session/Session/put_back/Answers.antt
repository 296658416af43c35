use Rattle.std.proofs.Common.{◌≡◌, All, sym, subst}
use Rattle.kept_session.specs.Sessions.{PlainSession}
use Rattle.kept_session.proofs.session.Session.put_back.Goals as goal

pub invariant_of-self : goal.invariant_of-self
invariant_of-self g c = (
  record {
    kept = c.self.invariant.0.kept;
    values = c.self.invariant.0.values;
    columns = c.self.invariant.0.columns;
    kinds = subst (λ (x : PlainSession). All (λ k. k ≡ x.checked.kinds) c.args.pool.kits) (sym c.self.view_is) c.requires.kinds;
    in_step = c.self.invariant.0.in_step;
  },
  c.self.invariant.1,
)
