-- What a view is seen as: its kind, and what its value is worth.
use Rattle.monoid_laws.specs.Worth.{Worth}
use Rattle.monoid_laws.specs.declared.Kind.{Kind}

pub record Seen : Type 0 where
  pub kind : Kind
  pub worth : Worth
