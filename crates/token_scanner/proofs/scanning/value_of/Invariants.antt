use Rattle.std.proofs.Common.{◌≡◌, ◌≤◌, drop}
use Rattle.token_scanner.specs.Scanning.{decimal}
use Rattle.token_scanner.proofs.scanning.value_of.Given as goal

abbrev pub invariant-loop-digit : goal.invariant-loop-digit
invariant-loop-digit l = record {
  fits : l.value ≤ 9223372036854775807;
  whole : decimal l.value (drop l.digit-index l.digits) ≡ decimal 0 l.digits;
}
