use Rattle.std.proofs.Common.{◌≡◌, ◌+◌, ◌≤◌, drop}
use Rattle.token_scanner.specs.Scanning.{line_ends}
use Rattle.token_scanner.proofs.scanning.line_ends.Given as goal

abbrev pub invariant-loop-b : goal.invariant-loop-b
invariant-loop-b l = record {
  within : l.n ≤ l.b-index;
  whole : l.n + line_ends (drop l.b-index l.text) ≡ line_ends l.text;
}
