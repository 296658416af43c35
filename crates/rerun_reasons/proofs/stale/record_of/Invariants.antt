use Rattle.std.proofs.Common.{◌≡◌, drop}
use Rattle.std.specs.List.{find}
use Rattle.record_theory.specs.Record.{is_of}
use Rattle.rerun_reasons.proofs.stale.record_of.Given as goal

abbrev pub invariant-loop-record : goal.invariant-loop-record
invariant-loop-record l = find (is_of l.procedure l.arguments) l.records ≡ find (is_of l.procedure l.arguments) (drop l.record-index l.records)
