use Rattle.std.proofs.Common.{◌≡◌, map, drop}
use Rattle.meaning.specs.Every.{every}
use Rattle.meaning.specs.Records.{is_current}
use Rattle.serial_oracle.specs.Keeping.{revision}
use Rattle.serial_oracle.proofs.validity.are_current.Given as goal

abbrev pub invariant-loop-one : goal.invariant-loop-one
invariant-loop-one l = every (is_current (map revision l.numbers)) (map revision l.wanted) ≡ every (is_current (map revision l.numbers)) (map revision (drop l.one-index l.wanted))
