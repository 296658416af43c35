use Rattle.std.proofs.Common.{◌≡◌, ◌++◌, drop, map}
use Rattle.monoid_laws.specs.Kinds.{identities}
use Rattle.gathered_records.specs.Summing.{worth_in}
use Rattle.gathered_records.proofs.sums.units.Given as goal

abbrev pub invariant-loop-kind : goal.invariant-loop-kind
invariant-loop-kind l = map worth_in l.values.items ++ identities (drop l.kind-index l.kinds) ≡ identities l.kinds
