-- Each kind takes some values.
use Rattle.std.proofs.Common.{◌<◌, lit<}
use Rattle.monoid_laws.specs.declared.Kind.{Kind}
use Rattle.monoid_laws.specs.declared.Kind.TheVariants as k
use Rattle.monoid_laws.specs.Kinds.{arity}

pub arity_some : (kind : Kind) → 0 < arity kind
arity_some k.Argmax = lit< tt
arity_some k.Affine = lit< tt
arity_some k.Hist = lit< tt
arity_some kind = lit< tt
