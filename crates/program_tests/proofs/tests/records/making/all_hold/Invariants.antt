use Rattle.std.proofs.Common.{◌≡◌, drop}
use Rattle.meaning.specs.Every.{every}
use Rattle.record_theory.specs.Validity.{record_holds}
use Rattle.program_tests.proofs.tests.records.making.all_hold.Given as goal

abbrev pub invariant-loop-record : goal.invariant-loop-record
invariant-loop-record l =
    every (record_holds l.program.revisions l.tables.tables) l.records ≡ every (record_holds l.program.revisions l.tables.tables) (drop l.record-index l.records)
