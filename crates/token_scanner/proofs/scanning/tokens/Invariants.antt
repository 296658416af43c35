use Rattle.std.proofs.Common.{◌≡◌, ◌≤◌, ◌+◌, ◌-◌, ◌++◌, length, drop}
use Rattle.token_scanner.specs.Words.{words}
use Rattle.token_scanner.specs.Scanning.{scan, tokens_of}
use Rattle.token_scanner.proofs.scanning.tokens.Given as goal

abbrev pub invariant-loop : goal.invariant-loop
invariant-loop l = record {
  within : l.at ≤ length l.text;
  lines : l.line ≤ l.counter + 1;
  whole : words l.out.items ++ scan (length l.text - l.counter) l.line (drop l.at l.text) ≡ tokens_of l.text;
}
