use Rattle.std.proofs.Common.{◌≡◌, map, take, string_bytes}
use Rattle.spawn_checker.proofs.table_names.copies.Given as goal

abbrev pub invariant-loop-name : goal.invariant-loop-name
invariant-loop-name l = map string_bytes l.made.items ≡ map string_bytes (take l.name-index l.names)
