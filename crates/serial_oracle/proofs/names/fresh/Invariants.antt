use Rattle.std.proofs.Common.{◌≡◌, ◌++◌, map, drop}
use Rattle.std.specs.Prelude.{string_bytes}
use Rattle.meaning.specs.Statements.{fresh}
use Rattle.serial_oracle.proofs.names.fresh.Given as goal

abbrev pub invariant-loop-name : goal.invariant-loop-name
invariant-loop-name l = fresh (map string_bytes l.names) l.args ≡ l.env.items ++ fresh (map string_bytes (drop l.name-index l.names)) l.rest
