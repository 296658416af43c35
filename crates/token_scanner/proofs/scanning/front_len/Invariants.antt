use Rattle.std.proofs.Common.{◌≡◌, ◌+◌, drop}
use Rattle.token_scanner.specs.Scanning.{front_len, belongs}
use Rattle.token_scanner.proofs.scanning.front_len.Given as goal

abbrev pub invariant-loop-b : goal.invariant-loop-b
invariant-loop-b l = record {
  count : l.n ≡ l.b-index;
  rest : l.n + front_len (belongs l.class) (drop l.b-index l.bytes) ≡ front_len (belongs l.class) l.bytes;
}
