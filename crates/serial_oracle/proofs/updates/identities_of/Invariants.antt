use Rattle.std.proofs.Common.{◌≡◌, ◌++◌, map, drop}
use Rattle.monoid_laws.specs.Kinds.{meaning, identities}
use Rattle.serial_oracle.proofs.updates.identities_of.Given as goal

abbrev pub invariant-loop-kind : goal.invariant-loop-kind
invariant-loop-kind l = identities l.kinds ≡ map meaning l.values.items ++ identities (drop l.kind-index l.kinds)
