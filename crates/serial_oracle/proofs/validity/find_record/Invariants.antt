use Rattle.std.proofs.Common.{◌≡◌, map, drop}
use Rattle.meaning.specs.Records.{record_of}
use Rattle.serial_oracle.specs.Keeping.{kept}
use Rattle.serial_oracle.proofs.validity.find_record.Given as goal

abbrev pub invariant-loop-place : goal.invariant-loop-place
invariant-loop-place l = record_of (map kept l.records) l.name l.args ≡ record_of (map kept (drop l.place l.records)) l.name l.args
