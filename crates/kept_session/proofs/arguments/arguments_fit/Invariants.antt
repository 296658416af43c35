use Rattle.std.proofs.Common.{drop, All}
use Rattle.monoid_laws.specs.Kinds.{Fits}
use Rattle.kept_session.proofs.arguments.arguments_fit.Given as goal

abbrev pub invariant-loop-record : goal.invariant-loop-record
invariant-loop-record l = All (λ r. All Fits r.arguments) (drop l.record-index l.records) → All (λ r. All Fits r.arguments) l.records
