use Rattle.std.proofs.Common.{◌≡◌, ◌++◌, map, drop, string_bytes}
use Rattle.input_tables.proofs.table.copies.Given as goal

abbrev pub invariant-loop-name : goal.invariant-loop-name
invariant-loop-name l = map string_bytes l.made.items ++ map (λ n. n.now) (drop l.name-index l.names) ≡ map (λ n. n.now) l.names
