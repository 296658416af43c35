use Rattle.std.proofs.Common.{◌≡◌, ◌++◌, drop, map}
use Rattle.record_theory.specs.Record.{instance_number}
use Rattle.rerun_records.proofs.keeping.numbers_of.Given as goal

abbrev pub invariant-loop-record : goal.invariant-loop-record
invariant-loop-record l = l.numbers.items ++ map instance_number (drop l.record-index l.records) ≡ map instance_number l.records
