use Rattle.std.proofs.Common.{◌≡◌, drop, map}
use Rattle.record_theory.specs.Record.{touched}
use Rattle.gathered_records.specs.Summing.{worth_in, numbered_from}
use Rattle.gathered_records.proofs.sums.are_numbered.Given as goal

abbrev pub invariant-loop-place : goal.invariant-loop-place
invariant-loop-place l = map touched (drop l.place l.values) ≡ numbered_from l.place (map worth_in (drop l.place l.values))
    → map touched l.values ≡ numbered_from 0 (map worth_in l.values)
