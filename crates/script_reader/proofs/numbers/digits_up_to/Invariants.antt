use Rattle.std.proofs.Common.{◌≡◌, ◌≤◌, drop}
use Rattle.script_reader.specs.Digits.{more_digits}
use Rattle.script_reader.proofs.numbers.digits_up_to.Given as goal

abbrev pub invariant-loop-digit : goal.invariant-loop-digit
invariant-loop-digit l = record {
  within : l.value ≤ l.limit;
  left : more_digits l.limit l.value (drop l.digit-index l.digits) ≡ more_digits l.limit 0 l.digits;
}
