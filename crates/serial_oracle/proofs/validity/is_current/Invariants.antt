use Rattle.std.proofs.Common.{◌≡◌, map, drop}
use Rattle.meaning.specs.Records.{is_current}
use Rattle.serial_oracle.specs.Keeping.{revision}
use Rattle.serial_oracle.proofs.validity.is_current.Given as goal

abbrev pub invariant-loop-number : goal.invariant-loop-number
invariant-loop-number l = is_current (map revision l.numbers) (revision l.wanted) ≡ is_current (map revision (drop l.number-index l.numbers)) (revision l.wanted)
